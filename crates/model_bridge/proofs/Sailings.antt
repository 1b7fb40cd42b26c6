-- Departures, and the sets of places that are lifted between them, call by call.
use Rattle.std.proofs.Common.{◌≡◌, ◌↔◌, ℕ, zero, suc, ◌<◌, ◌≤◌, ◌+◌, ◌-◌, Bool, true, false, cond, List, [], ◌∷◌, pos, arith, refl, sym, ◌∙◌, ap, subst, length, Option, Some, None}
use Rattle.std.specs.Prelude.{slice_index_or, not, nat_eq, Contains, ◌==◌, ◌&&◌, ◌||◌}
use Rattle.std.specs.List.{list_any}
use Rattle.std.proofs.lemmas.Cmp.{nat_eq_equiv}
use Rattle.std.proofs.lemmas.Bool.{eqb-true, eqb-false}
use Rattle.std.proofs.lemmas.Map.Views.{Contains-from_any, list_any-from_Contains}
use Rattle.std.proofs.lemmas.List.{length-map}
use Rattle.std.proofs.lemmas.Option.{slice_get_within}
use borrow.Author.Differences.{ints}
use Rattle.proof_trees.specs.Program.{sum_to, cost_of}
use Rattle.stow_data.specs.Ship.{Ship, places}
use Rattle.stow_data.specs.Shipment.{Cargo}
use Rattle.stow_data.specs.Plans.{Plan, held, no_container}
use Rattle.stow_data.specs.Kinds.{kind_number}
use Rattle.stowage_rules.specs.Plan.{Holds, IsWellFormed}
use Rattle.stowage_rules.specs.Departure.{IsStowed, IsDeparture, AreDepartures, HasArrival}
use Rattle.voyage_meaning.specs.Moves.{lift_cost}
use Rattle.voyage_meaning.specs.Voyage.{HasCost}
use Rattle.plan_lifts.specs.Least.{IsLeastClosed, AreClosed, AreLeast, counted, cost_of_lifts}
use Rattle.plan_lifts.specs.Lifted.{IsListed, AreListed, IsLifted}
use Rattle.plan_lifts.proofs.Sailing.{least_filled}
use Rattle.plan_lifts.proofs.Whole.{least_cost}
use Rattle.zero_one_rows.specs.declared.program.Var.{Var}
use Rattle.zero_one_rows.specs.Variables.{Voyage, variables, var, calls}
use Rattle.zero_one_rows.specs.Rows.{base, IsSolution, is_filled}
use Rattle.zero_one_rows.proofs.VariableList.{var_listed}
use Rattle.crossing_law.proofs.Worlds.{total_to}
use Rattle.crossing_law.proofs.KindFacts.{total_front}
use Rattle.model_bridge.specs.Laws.{IsProblem}
use Rattle.model_bridge.proofs.Words.{kind_at}
use Rattle.model_bridge.proofs.Stays.{IsSailed, kept, is_kind, assignment}
use Rattle.model_bridge.proofs.Sums.{same_sum}
use Rattle.model_bridge.proofs.Known.{facts}
use Rattle.model_bridge.proofs.PlaceRuns.{at_index}
use Rattle.model_bridge.proofs.Voyage.{ends_at}
use Rattle.model_bridge.proofs.Final.{is_solution, call_cost, cost_is}
use Rattle.model_bridge.specs.Pairs.{each_kind}
use Rattle.model_bridge.specs.Stays.{plan_after, is_left, is_lifted, began, begins, begin_table, begin_in, is_of, is_run, is_stay, IsWithin}
use Rattle.model_bridge.proofs.Tables.{given_at, given_long}
use Rattle.model_bridge.proofs.Steps.{kind_listed}
use Rattle.model_bridge.proofs.Runs.{begun, begins_run, assigned_is}

-- the set of no place
abbrev no_set : ℕ → Bool
no_set p = false

same_truth : (a b : Bool) → (a ≡ true → b ≡ true) → (b ≡ true → a ≡ true) → a ≡ b
same_truth true b to from = sym (to refl)
same_truth false true to from = from refl
same_truth false false to from = refl

pub contains_is : (flag : Bool) (list : List ℕ) (c : ℕ) → (flag ≡ true) ↔ Contains list c → flag ≡ list_any (nat_eq c) list
contains_is flag list c h = same_truth flag (list_any (nat_eq c) list)
    (λ t. list_any-from_Contains {eq = nat_eq} nat_eq_equiv c list (h.0 t))
    (λ t. h.1 (Contains-from_any {eq = nat_eq} (λ x y. eqb-true x y) c list t))

module _ (ship : Ship) where
  least_at : (before : Plan) (plans : List Plan) (sets : List (ℕ → Bool)) → AreLeast ship before plans sets → (i : ℕ) → i < length plans → IsLeastClosed ship (slice_index_or (before ∷ plans) i []) (slice_index_or plans i []) (slice_index_or sets i no_set)
  least_at before [] sets h i l = absurd (omega arith)
  least_at before (after ∷ plans) [] h i l = absurd h
  least_at before (after ∷ plans) (f ∷ fs) h zero l = h.0
  least_at before (after ∷ plans) (f ∷ fs) h (suc i) l = least_at after plans fs h.1 i (omega arith)

  listed_at : (before : Plan) (plans : List Plan) (sets : List (ℕ → Bool)) (lists : List (List ℕ)) → AreListed before plans sets lists → (i : ℕ) → i < length plans → IsListed (slice_index_or (before ∷ plans) i []) (slice_index_or sets i no_set) (slice_index_or lists i [])
  listed_at before [] sets lists h i l = absurd (omega arith)
  listed_at before (after ∷ plans) [] lists h i l = absurd h
  listed_at before (after ∷ plans) (f ∷ fs) [] h i l = absurd h
  listed_at before (after ∷ plans) (f ∷ fs) (list ∷ lists) h zero l = h.0
  listed_at before (after ∷ plans) (f ∷ fs) (list ∷ lists) h (suc i) l = listed_at after plans fs lists h.1 i (omega arith)

  pub listed_long : (before : Plan) (plans : List Plan) (sets : List (ℕ → Bool)) (lists : List (List ℕ)) → AreListed before plans sets lists → length lists ≡ length plans
  listed_long before [] [] [] h = refl
  listed_long before [] [] (list ∷ lists) h = absurd h
  listed_long before [] (f ∷ fs) lists h = absurd h
  listed_long before (after ∷ plans) [] lists h = absurd h
  listed_long before (after ∷ plans) (f ∷ fs) [] h = absurd h
  listed_long before (after ∷ plans) (f ∷ fs) (list ∷ lists) h = let r = listed_long after plans fs lists h.1 in omega arith

  closed_all : (before : Plan) (plans : List Plan) (sets : List (ℕ → Bool)) → AreLeast ship before plans sets → AreClosed ship before plans sets
  closed_all before [] [] h = tt
  closed_all before [] (f ∷ fs) h = absurd h
  closed_all before (after ∷ plans) [] h = absurd h
  closed_all before (after ∷ plans) (f ∷ fs) h = (h.0.closed, least_filled ship before after f h.0, closed_all after plans fs h.1)

  module _ (cargo : Cargo) where
    departs_at : (s : ℕ) (plans : List Plan) → AreDepartures ship cargo (suc s) plans → (i : ℕ) → i < length plans → IsDeparture ship cargo (suc (s + i)) (slice_index_or plans i [])
    departs_at s [] h i l = absurd (omega arith)
    departs_at s (plan ∷ plans) h zero l = let e : s ≡ s + 0 = omega arith in subst (λ (z : ℕ). IsDeparture ship cargo (suc z) plan) e h.0
    departs_at s (plan ∷ plans) h (suc i) l = let e : suc s + i ≡ s + suc i = omega arith in subst (λ (z : ℕ). IsDeparture ship cargo (suc z) (slice_index_or plans i [])) e (departs_at (suc s) plans h.1 i (omega arith))

    abbrev counts_at : ℕ → Plan → List Plan → List (ℕ → Bool) → ℕ → ℕ
    counts_at s before plans sets i = counted (lift_cost cargo (suc (s + i))) (slice_index_or sets i no_set) (slice_index_or (before ∷ plans) i [])

    same_total : (n : ℕ) (f g : ℕ → ℕ) → ((v : ℕ) → f v ≡ g v) → total_to n f ≡ total_to n g
    same_total zero f g h = refl
    same_total (suc n) f g h = omega (arith, same_total n f g h, h n)

    counted_total : (s : ℕ) (before : Plan) (plans : List Plan) (sets : List (ℕ → Bool)) → AreLeast ship before plans sets → cost_of_lifts cargo (suc s) before plans sets ≡ total_to (length plans) (counts_at s before plans sets)
    counted_total s before [] sets h = refl
    counted_total s before (after ∷ plans) [] h = absurd h
    counted_total s before (after ∷ plans) (f ∷ fs) h =
        let whole : ℕ → ℕ = counts_at s before (after ∷ plans) (f ∷ fs) in
        let e : s + 0 ≡ s = omega arith in
        let here : whole 0 ≡ counted (lift_cost cargo (suc s)) f before = ap (λ (z : ℕ). counted (lift_cost cargo (suc z)) f before) e in
        let later : total_to (length plans) (counts_at (suc s) after plans fs) ≡ total_to (length plans) (λ i. whole (suc i)) = same_total (length plans) _ _ (λ i. let q : suc s + i ≡ s + suc i = omega arith in ap (λ (z : ℕ). counted (lift_cost cargo (suc z)) (slice_index_or fs i no_set) (slice_index_or (after ∷ plans) i [])) q) in
        omega (arith, counted_total (suc s) after plans fs h.1, total_front (length plans) whole, here, later)

-- there is one count of departures
cost_once : (ship : Ship) (cargo : Cargo) (plans : List Plan) (n k : ℕ) → HasCost ship cargo plans n → HasCost ship cargo plans k → n ≡ k
cost_once ship cargo plans n k a b =
    let low = a.least b.moves b.is_legal in
    let high = b.least a.moves a.is_legal in
    omega (arith, low, high, a.is_number, b.is_number)

total_sum : (n : ℕ) (f : ℕ → ℕ) → sum_to n (λ i. pos (f i)) ≡ pos (total_to n f)
total_sum zero f = refl
total_sum (suc n) f = omega (arith, ints, total_sum n f)

module _ (m : Voyage) (arrives : HasArrival m.ship m.cargo) (plans : List Plan) (lists : List (List ℕ)) (is : IsLifted m.ship m.cargo plans lists) where
  abbrev pub plan_at : ℕ → Plan
  plan_at = plan_after m.cargo plans

  -- what is lifted at a call
  abbrev pub lift_at : ℕ → ℕ → Bool
  lift_at zero = no_set
  lift_at (suc i) = slice_index_or is.lifted.sets i no_set

  pub departs : (i : ℕ) → i < length plans → IsDeparture m.ship m.cargo (suc i) (plan_at (suc i))
  departs i l = let e : 0 + i ≡ i = omega arith in subst (λ (z : ℕ). IsDeparture m.ship m.cargo (suc z) (plan_at (suc i))) e (departs_at m.ship m.cargo 0 plans is.legal i l)

  pub stowed : (i : ℕ) → i ≤ length plans → IsStowed m.ship m.cargo i (plan_at i)
  stowed zero l = arrives
  stowed (suc i) l = (departs i (omega arith)).stowed

  pub formed : (i : ℕ) → i ≤ length plans → IsWellFormed m.ship m.cargo (plan_at i)
  formed i l = (stowed i l).well_formed

  pub known : (i p c : ℕ) → i ≤ length plans → Holds (plan_at i) p c → c < length m.cargo.containers
  known i p c l h = let k = (formed i l).known p c h in slice_get_within m.cargo.containers c k.0 k.1

  pub as_many : length lists ≡ length plans
  as_many = listed_long m.ship m.cargo.arrival plans is.lifted.sets lists is.lifted.listed

  -- the containers of a list stand at the places of its set
  listed : (i : ℕ) → i < length plans → IsListed (plan_at i) (lift_at (suc i)) (slice_index_or lists i [])
  listed i l = listed_at m.ship m.cargo.arrival plans is.lifted.sets lists is.lifted.listed i l

  pub named_known : (i c : ℕ) → i < length plans → Contains (slice_index_or lists i []) c → c < length m.cargo.containers
  named_known i c l h = let s = ((listed i l).stands c).0 h in known i s.0 c (omega arith) s.1.holds

  -- a place of the set is one whose container is listed
  set_is : (i p c : ℕ) → i < length plans → Holds (plan_at i) p c → lift_at (suc i) p ≡ is_lifted lists i c
  set_is i p c l h = contains_is (lift_at (suc i) p) (slice_index_or lists i []) c (
    λ t. ((listed i l).stands c).1 (p, record { holds = h; in_set = t }),
    λ x. let s = ((listed i l).stands c).0 x in ap (lift_at (suc i)) ((formed i (omega arith)).once p s.0 c h s.1.holds) ∙ s.1.in_set,
  )

  pub kept_is : (i p : ℕ) → i < length plans → kept m plan_at lift_at (suc i) p ≡ is_left (is_lifted lists i) (held (plan_at i) p)
  kept_is i p l = go (held (plan_at i) p) refl
    where
      go : (o : Option ℕ) → held (plan_at i) p ≡ o → (is_filled o && not (lift_at (suc i) p)) ≡ is_left (is_lifted lists i) o
      go None e = refl
      go (Some c) e = ap not (set_is i p c l (at_index (plan_at i) p c e))

  -- where a stay began, by the sets and by the lists
  pub begun_is : (i p : ℕ) → i ≤ length plans → begun m plan_at lift_at i p ≡ began m.cargo plans lists i p
  begun_is zero p l = refl
  begun_is (suc i) p l =
      ap (λ (b : Bool). cond b (begun m plan_at lift_at i p) (suc i)) (kept_is i p (omega arith))
      ∙ ap (λ (z : ℕ). cond (is_left (is_lifted lists i) (held (plan_at i) p)) z (suc i)) (begun_is i p (omega arith))

  module _ (rules : IsProblem m) (each : length plans + 1 ≡ calls m) where
    sailed : IsSailed m plan_at lift_at
    sailed = record {
      first = refl;
      stowed = λ i l. stowed i (omega arith);
      departs = λ i l. departs i (omega arith);
      closed = λ i l. (least_at m.ship m.cargo.arrival plans is.lifted.sets is.lifted.least i (omega arith)).closed;
    }

    -- what is 1 where a stay is
    abbrev pub is_set : ℕ → Bool
    is_set = assignment m plan_at lift_at

    pub solution : IsSolution m is_set
    solution = is_solution m rules plan_at lift_at sailed

    pub costs : (n : ℕ) → HasCost m.ship m.cargo plans n → cost_of (base m) is_set ≡ pos n
    costs n has =
        let k : ℕ = length plans in
        let least = least_cost m.ship m.cargo plans is.lifted.sets rules.ship rules.cargo each rules.arrives is.legal (closed_all m.ship m.cargo.arrival plans is.lifted.sets is.lifted.least) is.lifted.least in
        let same : n ≡ cost_of_lifts m.cargo 1 m.cargo.arrival plans is.lifted.sets = cost_once m.ship m.cargo plans n _ has least in
        let total = counted_total m.ship m.cargo 0 m.cargo.arrival plans is.lifted.sets is.lifted.least in
        let calls_are : sum_to k (λ i. ends_at m is_set (suc i)) ≡ sum_to k (λ i. pos (counts_at m.ship m.cargo 0 m.cargo.arrival plans is.lifted.sets i)) =
        same_sum k _ _ (λ i l. let e : i ≡ 0 + i = omega arith in
        call_cost m rules plan_at lift_at sailed i (omega arith) ∙ ap (λ (z : ℕ). pos (counted (lift_cost m.cargo (suc z)) (slice_index_or is.lifted.sets i no_set) (plan_at i))) e) in
        omega (arith, ints, cost_is m rules plan_at lift_at sailed k each, calls_are, total_sum k (counts_at m.ship m.cargo 0 m.cargo.arrival plans is.lifted.sets), total, same)

    kind_same : (kinds : List ℕ) (g : ℕ) (o : Option ℕ) → ((c : ℕ) → o ≡ Some c → slice_index_or kinds c 0 ≡ kind_at m c) → is_kind m plan_at lift_at g o ≡ is_of (λ c. slice_index_or kinds c 0) g o
    kind_same kinds g None h = refl
    kind_same kinds g (Some c) h = ap (λ (k : ℕ). k == g) (sym (h c refl))

    last_call : (t : Bool) (a b lifted : ℕ) → (t ≡ false → a ≡ b) → (t || (a == lifted)) ≡ (t || (b == lifted))
    last_call true a b lifted h = refl
    last_call false a b lifted h = ap (λ (z : ℕ). z == lifted) (h refl)

    -- what the code tests
    pub stay_is : (kinds : List ℕ) (start : ℕ → ℕ → ℕ) → kinds ≡ each_kind m → ((i p : ℕ) → i < calls m → p < length (places m.ship) → start i p ≡ began m.cargo plans lists i p) → (v : ℕ) → v < length (variables m) → is_stay m.cargo kinds plans (calls m) start (var m v) ≡ is_set v
    stay_is kinds start kinds_are starts v low =
        let x : Var = var m v in
        let named = (var_listed m v low).1 in
        let order : x.put < x.lifted = (facts m rules).var_order v low in
        let same : (i : ℕ) → i < calls m → start i x.place ≡ begun m plan_at lift_at i x.place = λ i l. starts i x.place l named.place ∙ sym (begun_is i x.place (omega arith)) in
        let runs : is_run (calls m) start x ≡ begins_run m plan_at lift_at x =
        ap (λ (z : ℕ). (z == x.put) && ((x.lifted == calls m) || (start x.lifted x.place == x.lifted))) (same (x.lifted - 1) (let l = named.lifted in omega arith))
        ∙ ap (λ (b : Bool). (begun m plan_at lift_at (x.lifted - 1) x.place == x.put) && b)
        (last_call (x.lifted == calls m) (start x.lifted x.place) (begun m plan_at lift_at x.lifted x.place) x.lifted (λ f. same x.lifted (let l = named.lifted in let ne = eqb-false x.lifted (calls m) f in omega arith))) in
        let of_kind : is_of (λ c. slice_index_or kinds c 0) x.kind (held (plan_at x.put) x.place) ≡ is_kind m plan_at lift_at x.kind (held (plan_at x.put) x.place) =
        sym (kind_same kinds x.kind (held (plan_at x.put) x.place) (λ c e.
        let l : c < length m.cargo.containers = known x.put x.place c (let p = named.put in omega arith) (at_index (plan_at x.put) x.place c e) in
        ap (λ (ks : List ℕ). slice_index_or ks c 0) kinds_are ∙ kind_listed (kind_number m.ship.weight_step m.cargo.containers) m.cargo.containers c no_container l)) in
        ap (λ (b : Bool). b && is_of (λ c. slice_index_or kinds c 0) x.kind (held (plan_at x.put) x.place)) runs
        ∙ ap (λ (b : Bool). begins_run m plan_at lift_at x && b) of_kind
        ∙ sym (assigned_is m plan_at lift_at x order)

    -- and that it can
    pub within : (kinds : List ℕ) (table : List (List ℕ)) → kinds ≡ each_kind m → table ≡ begin_table m.ship m.cargo plans lists (calls m) → (v : ℕ) → v < length (variables m) → IsWithin m.cargo kinds plans table (var m v)
    within kinds table kinds_are table_is v low =
        let x : Var = var m v in
        let named = (var_listed m v low).1 in
        let long : length table ≡ calls m = ap length table_is ∙ given_long (begins m.ship m.cargo plans lists) (calls m) in
        let kinds_long : length kinds ≡ length m.cargo.containers = ap length kinds_are ∙ length-map m.cargo.containers (kind_number m.ship.weight_step m.cargo.containers) in
        let put : x.put ≤ length plans = (let p = named.put in omega arith) in
        record {
          order = (facts m rules).var_order v low;
          put = put;
          lifted = let l = named.lifted in omega arith;
          in_table = λ i l.
              let row : slice_index_or table i [] ≡ begins m.ship m.cargo plans lists i = ap (λ (t : List (List ℕ)). slice_index_or t i []) table_is ∙ given_at (begins m.ship m.cargo plans lists) (calls m) i [] (omega (arith, l, long)) in
              let wide = ap length row ∙ given_long (began m.cargo plans lists i) (length (places m.ship)) in
              omega (arith, named.place, wide);
          in_plan = let wide = (formed x.put put).each_place in omega (arith, named.place, wide);
          of_kind = λ c h. let k = known x.put x.place c put h in omega (arith, k, kinds_long);
        }

    pub starts_are : (table : List (List ℕ)) → table ≡ begin_table m.ship m.cargo plans lists (calls m) → (i p : ℕ) → i < calls m → p < length (places m.ship) → begin_in table i p ≡ began m.cargo plans lists i p
    starts_are table table_is i p l low =
        ap (λ (t : List (List ℕ)). begin_in t i p) table_is
        ∙ ap (λ (row : List ℕ). slice_index_or row p 0) (given_at (begins m.ship m.cargo plans lists) (calls m) i [] l)
        ∙ given_at (began m.cargo plans lists i) (length (places m.ship)) p 0 low
