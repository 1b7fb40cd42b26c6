-- A legal voyage gives an assignment that meets the base rows, which costs at most what the voyage costs.
use Rattle.std.proofs.Common.{◌≡◌, ℕ, zero, suc, ◌<◌, ◌≤◌, ◌+◌, ◌-◌, ◌*◌, Bool, true, false, cond, List, [], ◌∷◌, ℤ, pos, ◌+ℤ◌, ◌-ℤ◌, ◌≤ℤ◌, arith, refl, sym, ◌∙◌, ap, subst, length, Option, Some, None}
use Rattle.std.specs.Prelude.{◌==◌, ◌&&◌, nat_lt, slice_get, slice_index_or}
use Rattle.std.proofs.lemmas.Bool.{both_ways, lt-ltb, and_parts, ltb-true}
use Rattle.std.proofs.lemmas.Option.{slice_get-get_or, get_or_from_slice_get, slice_get_within}
use Rattle.std.proofs.Math.Nat.{mul-add, suc-mul}
use borrow.Author.Differences.{ints}
use Rattle.proof_trees.specs.Program.{sum_to, where_set, cost_of}
use Rattle.stow_data.specs.Plans.{Plan, no_stack}
use Rattle.stow_data.specs.Shipment.{IsShipped, price, most_cost}
use Rattle.stowage_rules.specs.Plan.{Holds}
use Rattle.stowage_rules.specs.Departure.{IsStowed}
use Rattle.voyage_meaning.specs.declared.moves.Move.{Move}
use Rattle.voyage_meaning.specs.Moves.{leaves as goes_ashore, lift_cost, cost_of_moves}
use Rattle.voyage_meaning.specs.Voyage.{start, LeadsTo, IsVoyage, IsLegalVoyage, cost}
use Rattle.plan_lifts.specs.Least.{IsClosed, counted}
use Rattle.plan_lifts.proofs.Lower.{is_lifted}
use Rattle.plan_lifts.proofs.Count.{lifted_costs}
use Rattle.std.specs.Prelude.{All}
use Rattle.std.proofs.lemmas.List.Elements.{All-get_or}
use Rattle.plan_lifts.proofs.Voyages.{leads_closed}
use Rattle.zero_one_rows.specs.declared.program.Row.{Row}
use Rattle.zero_one_rows.specs.declared.program.Row.TheVariants.{Flow, Start, Cell, Support, Twenty, Block, Hatch, Weight, Apart, Cross}
use Rattle.zero_one_rows.specs.Variables.{Voyage, variables, var, kind, calls}
use Rattle.zero_one_rows.specs.Rows.{base, half, stack, cover_joins, has, is_base, rhs, coef, is_call, is_filled, IsSolution, bit}
use Rattle.zero_one_rows.proofs.VariableList.{var_listed}
use Rattle.crossing_law.proofs.Worlds.{total_to}
use Rattle.crossing_law.proofs.KindFacts.{total_front}
use Rattle.model_bridge.specs.Laws.{IsProblem, Solves, EachVoyageSolves, IsCostBound, IsVoyageBound}
use Rattle.model_bridge.proofs.Words.{container, kind_at, begun, loads_are, box_at}
use Rattle.model_bridge.proofs.Stays.{IsSailed, assignment}
use Rattle.model_bridge.proofs.Sums.{same_sum, none_sum}
use Rattle.model_bridge.proofs.Match.{total}
use Rattle.model_bridge.proofs.Calls.{Facts, aboard}
use Rattle.model_bridge.proofs.Departures.{spot}
use Rattle.model_bridge.proofs.PlanSums.{counted_sum, shown_sum}
use Rattle.model_bridge.proofs.Prices.{total_same, prices_sum}
use Rattle.model_bridge.proofs.Limits.{neg_where}
use Rattle.model_bridge.proofs.Meets.{IsShown, met_cell, met_support, flow_sum}
use Rattle.model_bridge.proofs.Blocks.{met_block, met_hatch_out, met_hatch_into}
use Rattle.model_bridge.proofs.Others.{met_start, met_weight, met_twenty, met_apart, held, shown}
use Rattle.model_bridge.proofs.Voyage.{ends_at, ends_past, past_step, call_count, costs, ended_is}
use Rattle.model_bridge.proofs.Ends.{ended}
use Rattle.model_bridge.proofs.Known.{facts, each_sails}
use Rattle.model_bridge.proofs.PlaceRuns.{run_of, at_index, filled_at, aboard_at}

all_at : {X : Type 0} (P : X → Type 0) (xs : List X) (k : ℕ) (x : X) → All P xs → slice_get xs k ≡ Some x → P x
all_at P xs k x all h = subst P (get_or_from_slice_get xs k x x h) (All-get_or P xs k x (slice_get_within xs k x h) all)

minus_where : (t : Bool) (z : ℤ) → where_set t (pos 0 -ℤ z) ≡ pos 0 -ℤ where_set t z
minus_where true z = refl
minus_where false z = refl

three_zero : (t u w : Bool) (k : ℕ) → (t ≡ true → u ≡ true → w ≡ true → ⊥) → where_set t (where_set u (pos (cond w k 0))) ≡ pos 0
three_zero true true true k h = absurd (h refl refl refl)
three_zero true true false k h = refl
three_zero true false w k h = refl
three_zero false u w k h = refl

counted_same : (w : Option ℕ → ℕ) (f g : ℕ → Bool) (plan : Plan) → w None ≡ 0 → ((p c : ℕ) → Holds plan p c → f p ≡ g p) → counted w f plan ≡ counted w g plan
counted_same w f g [] z h = refl
counted_same w f g (o ∷ os) z h =
    let rest = counted_same w (λ p. f (suc p)) (λ p. g (suc p)) os z (λ p c k. h (suc p) c k) in
    let here = first o (λ c e. h 0 c (ap (λ (q : Option ℕ). Some q) e)) in omega (arith, rest, here)
  where
    nothing : (b : Bool) (k : ℕ) → k ≡ 0 → cond b k 0 ≡ 0
    nothing true k e = e
    nothing false k e = refl

    first : (o : Option ℕ) → ((c : ℕ) → o ≡ Some c → f 0 ≡ g 0) → cond (f 0) (w o) 0 ≡ cond (g 0) (w o) 0
    first (Some c) h = ap (λ (b : Bool). cond b (w (Some c)) 0) (h c refl)
    first None h = nothing (f 0) (w None) z ∙ sym (nothing (g 0) (w None) z)

module _ (m : Voyage) (rules : IsProblem m) (plan : ℕ → Plan) (lift : ℕ → ℕ → Bool) (sailed : IsSailed m plan lift) where
  abbrev x : ℕ → Bool
  x = assignment m plan lift

  abbrev n : ℕ
  n = length (variables m)

  abbrev Met : Row → Type 0
  Met r = rhs m r ≤ℤ sum_to n (λ v. where_set (x v) (coef m r (var m v)))

  all : IsShown m x plan lift (held m rules plan lift sailed)
  all = shown m rules plan lift sailed

  known : Facts m
  known = facts m rules

  last_call : (c : ℕ) → c < length m.cargo.containers → (container m c).dest ≤ calls m
  last_call c l = (all_at (IsShipped (length m.cargo.rotation)) m.cargo.containers c (container m c) rules.cargo.each_shipped (box_at m c l)).in_rotation

  met_flow : (q i g : ℕ) → suc i < (calls m) → suc i < (kind m g).dest → Met (Flow q (suc i) g)
  met_flow zero i g l before = omega (arith, ints, loads_are m (suc i) g, flow_sum m x known plan lift (held m rules plan lift sailed) all i g l before)
  met_flow (suc q) i g l before =
      let a = neg_where n x (λ v. pos 0 -ℤ (bit (((var m v).put == suc i) && ((var m v).kind == g)) -ℤ bit (((var m v).lifted == suc i) && ((var m v).kind == g)))) (λ v. where_set (x v) (bit (((var m v).put == suc i) && ((var m v).kind == g)) -ℤ bit (((var m v).lifted == suc i) && ((var m v).kind == g)))) (λ v l. minus_where (x v) _) in
      omega (arith, ints, a, loads_are m (suc i) g, flow_sum m x known plan lift (held m rules plan lift sailed) all i g l before)

  met_hatch : (w i h b : ℕ) → suc i < (calls m) → w < 2 → cover_joins m.ship.covers (half m h).stack (half m b).stack ≡ true → Met (Hatch w (suc i) h b)
  met_hatch zero i h b l t joins = met_hatch_out m x known plan lift (held m rules plan lift sailed) all i l h b joins
  met_hatch (suc zero) i h b l t joins = met_hatch_into m x known plan lift (held m rules plan lift sailed) all i l h b joins
  met_hatch (suc (suc w)) i h b l t joins = absurd (omega arith)

  call_low : (i : ℕ) → is_call m i ≡ true → (0 < i) × (i < (calls m))
  call_low i h = let a = and_parts (nat_lt 0 i) _ h in (ltb-true _ _ a.0, ltb-true _ _ a.1)

  started : (q p : ℕ) → is_filled (slice_index_or m.cargo.arrival p None) ≡ true → Met (Start q p)
  started q p h =
      let f = filled_at (slice_index_or m.cargo.arrival p None) h in
      let there = subst (λ (z : Plan). Holds z p f.0) (sym sailed.first) (at_index m.cargo.arrival p f.0 f.1) in
      let more = rules.cargo.calls_from in
      met_start m x known plan lift (held m rules plan lift sailed) all q p f.0 (omega arith) there

  pub meets : (r : Row) → (is_base r && has m r) ≡ true → Met r
  meets (Flow q zero g) h = absurd (both_ways false refl (and_parts (nat_lt q 2) false h).1)
  meets (Flow q (suc i) g) h = let a = and_parts (is_call m (suc i)) _ (and_parts (nat_lt q 2) _ h).1 in let b = and_parts (nat_lt g _) _ a.1 in
      met_flow q i g (call_low (suc i) a.0).1 (ltb-true _ _ (and_parts (begun m g (suc i)) _ b.1).1)
  meets (Start q p) h = started q p (and_parts (nat_lt q 2) _ h).1
  meets (Cell i h) t = met_cell m x known plan lift (held m rules plan lift sailed) all i h (call_low i (and_parts (is_call m i) _ t).0).1
  meets (Support i h) t = let a = and_parts (is_call m i) _ t in met_support m x known plan lift (held m rules plan lift sailed) all i h (call_low i a.0).1 (ltb-true _ _ (and_parts (nat_lt h _) _ a.1).1)
  meets (Twenty i h) t = let a = and_parts (is_call m i) _ t in met_twenty m x known plan lift (held m rules plan lift sailed) all i h (call_low i a.0).1 (ltb-true _ _ (and_parts (nat_lt h _) _ a.1).1)
  meets (Block zero h) t = absurd (both_ways false refl t)
  meets (Block (suc i) h) t = met_block m x known plan lift (held m rules plan lift sailed) all i (call_low (suc i) (and_parts (is_call m (suc i)) _ t).0).1 h
  meets (Hatch w zero h b) t = absurd (both_ways false refl (and_parts (nat_lt w 2) false t).1)
  meets (Hatch w (suc i) h b) t = let a = and_parts (nat_lt w 2) _ t in let c = and_parts (is_call m (suc i)) _ a.1 in let d = and_parts (nat_lt h _) _ c.1 in let e = and_parts (nat_lt b _) _ d.1 in let f = and_parts ((half m b).tier == 0) _ e.1 in
      met_hatch w i h b (call_low (suc i) c.0).1 (ltb-true _ _ a.0) f.1
  meets (Weight zero k) t = absurd (both_ways false refl t)
  meets (Weight (suc i) k) t = let a = and_parts (is_call m (suc i)) _ t in
      met_weight m x known plan lift (held m rules plan lift sailed) all i k (stack m k) (call_low (suc i) a.0).1 (slice_get-get_or m.ship.stacks k no_stack (ltb-true _ _ a.1))
  meets (Apart zero e p q) t = absurd (both_ways false refl t)
  meets (Apart (suc i) e p q) t = let a = and_parts (is_call m (suc i)) _ t in let b = and_parts (nat_lt e _) _ a.1 in let c = and_parts (nat_lt p _) _ b.1 in let d = and_parts (nat_lt q _) _ c.1 in
      met_apart m x known plan lift (held m rules plan lift sailed) all i e p q (call_low (suc i) a.0).1 (ltb-true _ _ b.0) (ltb-true _ _ c.0) (ltb-true _ _ d.0) d.1
  meets (Cross k price c) h = absurd (both_ways false refl h)

  pub is_solution : IsSolution m x
  is_solution = meets

  nothing_past : (i : ℕ) → i + 1 ≡ calls m → ends_past m x i ≡ pos 0
  nothing_past i e = none_sum n _ (λ v l. three_zero (x v) (nat_lt i (var m v).lifted) (nat_lt (var m v).lifted (kind m (var m v).kind).dest) (price m.cargo (var m v).lifted) (λ one late early.
      let r = run_of m rules plan lift sailed (var m v) one in
      let named = (var_listed m v l).1 in
      let a = aboard_at m rules plan lift sailed (var m v).put (var m v).place r.box named.put r.there in
      let d = known.dest_of r.box a.0 in
      let k : (kind m (kind_at m r.box)).dest ≡ (kind m (var m v).kind).dest = ap (λ (g : ℕ). (kind m g).dest) r.alike in
      let top = last_call r.box a.0 in
      let p = ltb-true _ _ late in let q = ltb-true _ _ early in omega arith))

  -- what is lifted at a call costs what its set counts
  pub call_cost : (i : ℕ) → suc i < calls m → ends_at m x (suc i) ≡ pos (counted (lift_cost m.cargo (suc i)) (lift (suc i)) (plan i))
  call_cost i l =
      let low : i < calls m = omega arith in
      let c = call_count m x known is_solution i (held m rules plan lift sailed i) (all.holds i low) (plan i) (all.shows i low) in
      let same = counted_same (lift_cost m.cargo (suc i)) (ended m (suc i) (held m rules plan lift sailed i)) (lift (suc i)) (plan i) refl (λ p c h.
      let d = (all.shows i low).from_plan p c h in
      subst (λ (z : ℕ). ended m (suc i) (held m rules plan lift sailed i) z ≡ lift (suc i) z) d.2
      (ended_is m x known is_solution i (held m rules plan lift sailed i) (all.holds i low) (plan i) (all.shows i low) d.0 d.1 ∙ all.gone_is i l d.0 d.1)) in
      sym c ∙ ap pos same

  past_all : ends_past m x 0 ≡ cost_of (base m) x
  past_all = same_sum n (λ v. where_set (x v) (where_set (nat_lt 0 (var m v).lifted) (costs m v))) (λ v. where_set (x v) (costs m v)) (λ v l. ap (λ (b : Bool). where_set (x v) (where_set b (costs m v))) (lt-ltb 0 (var m v).lifted (let o = known.var_order v l in omega arith)))

  parted : (k : ℕ) → ends_past m x 0 ≡ sum_to k (λ i. ends_at m x (suc i)) +ℤ ends_past m x k
  parted zero = omega (arith, ints)
  parted (suc k) = omega (arith, ints, parted k, past_step m x k)

  -- the cost is what is lifted at the calls
  pub cost_is : (k : ℕ) → k + 1 ≡ calls m → cost_of (base m) x ≡ sum_to k (λ i. ends_at m x (suc i))
  cost_is k e = omega (arith, ints, past_all, parted k, nothing_past k e)

  -- at a call each container is lifted once at most, at its price
  no_lift : (b : Bool) → pos (cond b 0 0) ≡ pos 0
  no_lift true = refl
  no_lift false = refl

  one_lift : (b d : Bool) (t : ℕ) → pos (cond b (cond d 0 t) 0) ≤ℤ pos t
  one_lift true true t = omega (arith, ints)
  one_lift true false t = omega (arith, ints)
  one_lift false d t = omega (arith, ints)

  total_low : (t : ℕ) (f : ℕ × ℕ → ℤ) (es : List (ℕ × ℕ)) → ((e : ℕ × ℕ) → f e ≤ℤ pos t) → total f es ≤ℤ total (λ e. pos t) es
  total_low t f [] h = omega (arith, ints)
  total_low t f (e ∷ es) h = omega (arith, ints, total_low t f es h, h e)

  one_low : (b : Bool) (t : ℕ) → where_set b (pos t) ≤ℤ pos t
  one_low true t = omega (arith, ints)
  one_low false t = omega (arith, ints)

  each_low : (t k : ℕ) (b : ℕ → Bool) → sum_to k (λ c. where_set (b c) (pos t)) ≤ℤ pos (k * t)
  each_low t zero b = omega (arith, ints)
  each_low t (suc k) b = omega (arith, ints, each_low t k b, one_low (b k) t, suc-mul k t)

  call_few : (i : ℕ) → suc i < calls m → ends_at m x (suc i) ≤ℤ pos (length m.cargo.containers * price m.cargo (suc i))
  call_few i l =
      let t : ℕ = price m.cargo (suc i) in
      let low : i < calls m = omega arith in
      let pairs = held m rules plan lift sailed i in
      let f : ℕ → Option ℕ → ℤ = λ p o. pos (cond (lift (suc i) p) (lift_cost m.cargo (suc i) o) 0) in
      let a = counted_sum (lift_cost m.cargo (suc i)) (lift (suc i)) (plan i) in
      let b = shown_sum m x known i pairs (all.holds i low) (plan i) (all.shows i low) f (λ p. no_lift (lift (suc i) p)) in
      let c = total_low t (λ (e : ℕ × ℕ). f (spot m e) (Some e.1)) pairs (λ e. one_lift (lift (suc i) (spot m e)) (goes_ashore m.cargo (suc i) e.1) t) in
      let d = (all.holds i low).boxes (λ c. pos t) in
      omega (arith, ints, call_cost i l, a, b, c, d, each_low t (length m.cargo.containers) (aboard m i))

  abbrev prices_to : ℕ → ℕ
  prices_to k = total_to k (λ i. price m.cargo (suc i))

  calls_few : (k : ℕ) → k + 1 ≤ calls m → sum_to k (λ i. ends_at m x (suc i)) ≤ℤ pos (length m.cargo.containers * prices_to k)
  calls_few zero l = omega (arith, ints)
  calls_few (suc k) l = omega (arith, ints, calls_few k (omega arith), call_few k (omega arith), mul-add (length m.cargo.containers) (prices_to k) (price m.cargo (suc k)))

  -- in all at most once at each call but the last
  pub cost_few : cost_of (base m) x ≤ℤ pos (most_cost m.cargo)
  cost_few =
      let more = rules.cargo.calls_from in
      let all : length m.cargo.containers * prices_to (calls m - 1) ≡ most_cost m.cargo = ap (λ (n : ℕ). length m.cargo.containers * n) (prices_sum m rules.cargo) in
      omega (arith, ints, cost_is (calls m - 1) (omega arith), calls_few (calls m - 1) (omega arith), all)

-- ---- a legal voyage, call by call

leads_at : (m : Voyage) (s : ℕ) (before : Plan) (moves : List (List Move)) (plans : List Plan) → IsVoyage m.ship m.cargo (suc s) before moves plans → (i : ℕ) → i < length plans
    → LeadsTo m.ship m.cargo (suc (s + i)) (slice_index_or (before ∷ plans) i []) (slice_index_or moves i []) (slice_index_or plans i [])
leads_at m s before [] [] v i l = absurd (omega arith)
leads_at m s before [] (after ∷ ps) v i l = absurd v
leads_at m s before (ms ∷ rest) [] v i l = absurd v
leads_at m s before (ms ∷ rest) (after ∷ ps) v zero l = let e : s ≡ s + 0 = omega arith in subst (λ (z : ℕ). LeadsTo m.ship m.cargo (suc z) before ms after) e v.0
leads_at m s before (ms ∷ rest) (after ∷ ps) v (suc i) l =
    let e : suc s + i ≡ s + suc i = omega arith in
    subst (λ (z : ℕ). LeadsTo m.ship m.cargo (suc z) (slice_index_or (after ∷ ps) i []) (slice_index_or rest i []) (slice_index_or ps i [])) e (leads_at m (suc s) after rest ps v.1 i (omega arith))

abbrev moves_cost : Voyage → ℕ → Plan → List Move → ℕ
moves_cost m call before moves = cost_of_moves m.cargo call (start m.ship m.cargo call before) moves

count_total : (m : Voyage) (s : ℕ) (before : Plan) (moves : List (List Move)) (plans : List Plan) → IsVoyage m.ship m.cargo (suc s) before moves plans
    → cost m.ship m.cargo (suc s) before moves plans ≡ total_to (length plans) (λ i. moves_cost m (suc (s + i)) (slice_index_or (before ∷ plans) i []) (slice_index_or moves i []))
count_total m s before [] [] v = refl
count_total m s before [] (after ∷ ps) v = absurd v
count_total m s before (ms ∷ rest) [] v = absurd v
count_total m s before (ms ∷ rest) (after ∷ ps) v =
    let f : ℕ → ℕ = λ i. moves_cost m (suc (s + i)) (slice_index_or (before ∷ after ∷ ps) i []) (slice_index_or (ms ∷ rest) i []) in
    let e : s + 0 ≡ s = omega arith in
    let here : f 0 ≡ moves_cost m (suc s) before ms = ap (λ (z : ℕ). moves_cost m (suc z) before ms) e in
    let later : total_to (length ps) (λ i. moves_cost m (suc (suc s + i)) (slice_index_or (after ∷ ps) i []) (slice_index_or rest i [])) ≡ total_to (length ps) (λ i. f (suc i)) = total_same (length ps) _ _ (λ i. let q : suc s + i ≡ s + suc i = omega arith in ap (λ (z : ℕ). moves_cost m (suc z) (slice_index_or (after ∷ ps) i []) (slice_index_or rest i [])) q) in
    omega (arith, count_total m (suc s) after rest ps v.1, total_front (length ps) f, here, later)

module _ (m : Voyage) (rules : IsProblem m) (moves : List (List Move)) (plans : List Plan) (legal : IsLegalVoyage m.ship m.cargo moves plans) where
  abbrev plan_at : ℕ → Plan
  plan_at i = slice_index_or (m.cargo.arrival ∷ plans) i []

  abbrev lift_at : ℕ → ℕ → Bool
  lift_at i = is_lifted (slice_index_or moves (i - 1) [])

  leads : (i : ℕ) → suc i < calls m → LeadsTo m.ship m.cargo (suc i) (plan_at i) (slice_index_or moves i []) (plan_at (suc i))
  leads i l =
      let e : 0 + i ≡ i = omega arith in
      let each = legal.each_call in
      subst (λ (z : ℕ). LeadsTo m.ship m.cargo (suc z) (plan_at i) (slice_index_or moves i []) (plan_at (suc i))) e (leads_at m 0 m.cargo.arrival moves plans legal.voyage i (omega arith))

  lift_is : (i : ℕ) → is_lifted (slice_index_or moves i []) ≡ lift_at (suc i)
  lift_is i = let e : i ≡ suc i - 1 = omega arith in ap (λ (z : ℕ). is_lifted (slice_index_or moves z [])) e

  stowed_at : (i : ℕ) → i < calls m → IsStowed m.ship m.cargo i (plan_at i)
  stowed_at zero l = rules.arrives
  stowed_at (suc i) l = ((leads i l).departure).stowed

  sailed : IsSailed m plan_at lift_at
  sailed = record {
    first = refl;
    stowed = stowed_at;
    departs = λ i l. (leads i l).departure;
    closed = λ i l. subst (λ (f : ℕ → Bool). IsClosed m.ship (plan_at i) (plan_at (suc i)) f) (lift_is i) (leads_closed m.ship m.cargo (suc i) (plan_at i) (plan_at (suc i)) (slice_index_or moves i []) (leads i l));
  }

  abbrev stays_of : ℕ → Bool
  stays_of = assignment m plan_at lift_at

  call_cheap : (i : ℕ) → suc i < calls m → ends_at m stays_of (suc i) ≤ℤ pos (moves_cost m (suc i) (plan_at i) (slice_index_or moves i []))
  call_cheap i l =
      let a = call_cost m rules plan_at lift_at sailed i l in
      let b : counted (lift_cost m.cargo (suc i)) (is_lifted (slice_index_or moves i [])) (plan_at i) ≤ moves_cost m (suc i) (plan_at i) (slice_index_or moves i []) = lifted_costs m.ship m.cargo (suc i) (slice_index_or moves i []) (start m.ship m.cargo (suc i) (plan_at i)) (leads i l).allowed in
      let c : counted (lift_cost m.cargo (suc i)) (lift_at (suc i)) (plan_at i) ≤ moves_cost m (suc i) (plan_at i) (slice_index_or moves i []) = subst (λ (f : ℕ → Bool). counted (lift_cost m.cargo (suc i)) f (plan_at i) ≤ moves_cost m (suc i) (plan_at i) (slice_index_or moves i [])) (lift_is i) b in
      omega (arith, ints, a, c)

  calls_cheap : (k : ℕ) → k + 1 ≤ calls m → sum_to k (λ i. ends_at m stays_of (suc i)) ≤ℤ pos (total_to k (λ i. moves_cost m (suc (0 + i)) (plan_at i) (slice_index_or moves i [])))
  calls_cheap zero l = omega (arith, ints)
  calls_cheap (suc k) l =
      let e : k ≡ 0 + k = omega arith in
      let here : ends_at m stays_of (suc k) ≤ℤ pos (moves_cost m (suc (0 + k)) (plan_at k) (slice_index_or moves k [])) = subst (λ (z : ℕ). ends_at m stays_of (suc k) ≤ℤ pos (moves_cost m (suc z) (plan_at k) (slice_index_or moves k []))) e (call_cheap k (omega arith)) in
      omega (arith, ints, calls_cheap k (omega arith), here)

  pub solves : Solves m moves plans
  solves =
      let each = legal.each_call in
      record {
        x = stays_of;
        solution = is_solution m rules plan_at lift_at sailed;
        few = cost_few m rules plan_at lift_at sailed;
        cheap = omega (arith, ints, cost_is m rules plan_at lift_at sailed (length plans) each, calls_cheap (length plans) (omega arith), count_total m 0 m.cargo.arrival moves plans legal.voyage);
      }

pub each_solves : EachVoyageSolves
each_solves m rules moves plans legal = solves m rules moves plans legal

-- what bounds the costs of assignments bounds those of voyages, and the other way
pub voyage_bound : (m : Voyage) (bound : ℕ) → IsProblem m → IsCostBound m bound → IsVoyageBound m bound
voyage_bound m bound rules costs moves plans legal = let s = each_solves m rules moves plans legal in omega (arith, ints, costs s.x s.solution, s.cheap)

pub cost_bound : (m : Voyage) (bound : ℕ) → IsProblem m → IsVoyageBound m bound → IsCostBound m bound
cost_bound m bound rules costs x solution = let s = each_sails m rules x solution in omega (arith, ints, costs s.moves s.plans s.legal, s.cheap)

-- a bound above the most that a voyage needs to cost
pub none_sails : (m : Voyage) → IsProblem m → IsCostBound m (most_cost m.cargo + 1) → (moves : List (List Move)) (plans : List Plan) → IsLegalVoyage m.ship m.cargo moves plans → ⊥
none_sails m rules costs moves plans legal = let s = each_solves m rules moves plans legal in omega (arith, ints, costs s.x s.solution, s.few)
