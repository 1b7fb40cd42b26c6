-- The whole voyage of a solution, and its cost.
use Rattle.std.proofs.Common.{◌≡◌, ℕ, zero, suc, ◌<◌, ◌≤◌, ◌+◌, Bool, true, false, cond, List, [], ◌∷◌, ◌++◌, ℤ, pos, ◌+ℤ◌, ◌≤ℤ◌, arith, refl, sym, ◌∙◌, ap, ⊎_elim, subst, length, Some}
use Rattle.std.specs.Prelude.{◌==◌, ◌&&◌, nat_le, nat_lt, slice_get}
use Rattle.std.proofs.lemmas.Bool.{cases_Bool, both_ways, lt-ltb, and_from, false_from_ne_true, eqb-true}
use Rattle.std.proofs.lemmas.Bool.Decides.{nat_tests}
use Rattle.std.proofs.lemmas.Option.{slice_get_within, slice_get-get_or, get_or_from_slice_get}
use borrow.Author.Differences.{ints}
use Rattle.proof_trees.specs.Program.{sum_to, where_set}
use Rattle.stow_data.specs.declared.cargoes.Container.{Container}
use Rattle.stow_data.specs.Shipment.{price}
use Rattle.voyage_meaning.specs.declared.moves.Move.{Move}
use Rattle.stow_data.specs.Plans.{Plan}
use Rattle.voyage_meaning.specs.Moves.{lift_cost, cost_of_moves}
use Rattle.plan_lifts.specs.Least.{counted}
use Rattle.stowage_rules.specs.Departure.{IsStowed}
use Rattle.stowage_rules.specs.Departure.{IsDeparture}
use Rattle.voyage_meaning.specs.Voyage.{start, LeadsTo, IsVoyage}
use Rattle.voyage_meaning.specs.Voyage.{cost}
use Rattle.plan_lifts.specs.Least.{IsDivided}
use Rattle.plan_lifts.proofs.Closed.{closed_leads}
use Rattle.zero_one_rows.specs.Variables.{Voyage, variables, var, kind, calls, var_cost}
use Rattle.model_bridge.proofs.Words.{container}
use Rattle.zero_one_rows.specs.Rows.{is_call, IsSolution}
use Rattle.stow_data.specs.Plans.{no_container}
use Rattle.model_bridge.proofs.Sums.{same_sum, plus_sum}
use Rattle.model_bridge.proofs.Match.{same_total}
use Rattle.stow_data.proofs.Members.{Member}
use Rattle.stow_data.proofs.Distinct.{each_from}
use Rattle.model_bridge.proofs.Members.{differ_at}
use Rattle.model_bridge.proofs.Calls.{Facts, IsHeld, gone, kept}
use Rattle.model_bridge.proofs.Next.{IsNext, next}
use Rattle.model_bridge.proofs.Departures.{spot, Shows, pair, stowed, shows_now, plan_now}
use Rattle.model_bridge.proofs.Ends.{ended, ended_from, ended_at, closed, only}
use Rattle.model_bridge.proofs.PlanSums.{shown_sum, counted_sum, spots_differ}
use Rattle.model_bridge.proofs.Limits.{within, separated}

-- the cost of a variable
abbrev pub costs : Voyage → ℕ → ℤ
costs m v = pos (var_cost m (var m v))

ends_term : (put lifted i : ℕ) (t : Bool) (z : ℤ) → put < lifted → where_set (t && (nat_le put i && nat_lt i lifted)) (where_set (lifted == suc i) z) ≡ where_set t (where_set (lifted == suc i) z)
ends_term put lifted i true z l = grind (arith, nat_tests, ints)
ends_term put lifted i false z l = refl

past_term : (lifted i : ℕ) (t : Bool) (z : ℤ) → where_set t (where_set (lifted == suc i) z) +ℤ where_set t (where_set (nat_lt (suc i) lifted) z) ≡ where_set t (where_set (nat_lt i lifted) z)
past_term lifted i true z = grind (arith, nat_tests, ints)
past_term lifted i false z = refl

term_at : (lifted j : ℕ) (g : ℕ → ℤ) → where_set (lifted == j) (g j) ≡ where_set (lifted == j) (g lifted)
term_at lifted j g = go (lifted == j) refl
  where
    go : (b : Bool) → (lifted == j) ≡ b → where_set b (g j) ≡ where_set b (g lifted)
    go true e = ap g (sym (eqb-true lifted j e))
    go false e = refl

lift_term : (lifted dest j t : ℕ) → lifted ≤ dest → pos (cond (lifted == j) (cond (dest == j) 0 t) 0) ≡ where_set (lifted == j) (pos (cond (nat_lt lifted dest) t 0))
lift_term lifted dest j t l = grind (arith, nat_tests, ints)

cost_term : (f : ℕ → ℕ) (lifted dest j : ℕ) → lifted ≤ dest → pos (cond (lifted == j) (cond (dest == j) 0 (f j)) 0) ≡ where_set (lifted == j) (pos (cond (nat_lt lifted dest) (f lifted) 0))
cost_term f lifted dest j l = lift_term lifted dest j (f j) l ∙ term_at lifted j (λ k. pos (cond (nat_lt lifted dest) (f k) 0))

low_term : (t u : Bool) (k : ℕ) → pos 0 ≤ℤ where_set t (where_set u (pos k))
low_term true true k = omega (arith, ints)
low_term true false k = omega (arith, ints)
low_term false u k = omega (arith, ints)

low_sum : (n : ℕ) (f : ℕ → ℤ) → ((k : ℕ) → pos 0 ≤ℤ f k) → pos 0 ≤ℤ sum_to n f
low_sum zero f h = omega (arith, ints)
low_sum (suc n) f h = omega (arith, ints, low_sum n f h, h n)

module _ (m : Voyage) (x : ℕ → Bool) where
  abbrev pub ends_at : ℕ → ℤ
  ends_at j = sum_to (length (variables m)) (λ v. where_set (x v) (where_set ((var m v).lifted == j) (costs m v)))

  abbrev pub ends_past : ℕ → ℤ
  ends_past i = sum_to (length (variables m)) (λ v. where_set (x v) (where_set (nat_lt i (var m v).lifted) (costs m v)))

  module _ (facts : Facts m) (solution : IsSolution m x) (i : ℕ) (held : List (ℕ × ℕ)) (is : IsHeld m x i held) (old : Plan) (shows : Shows m held old) where
    pub ended_is : (e : ℕ × ℕ) → Member e held → ended m (suc i) held (spot m e) ≡ gone m (suc i) e.0
    ended_is e h = ⊎_elim
        (λ (g : gone m (suc i) e.0 ≡ true). ended_from m (suc i) held e h g ∙ sym g)
        (λ (g : gone m (suc i) e.0 ≡ false). false_from_ne_true _ (λ t. let d = ended_at m (suc i) held (spot m e) t in
        both_ways (gone m (suc i) e.0) g (ap (λ (z : ℕ × ℕ). gone m (suc i) z.0) (differ_at (spot m) held e d.0 (spots_differ m x facts i held is old shows) h d.1 (sym d.2)) ∙ d.3)) ∙ sym g)
        (cases_Bool (gone m (suc i) e.0))

    no_weight : (b : Bool) → pos (cond b 0 0) ≡ pos 0
    no_weight true = refl
    no_weight false = refl

    pair_cost : (e : ℕ × ℕ) → Member e held → pos (cond (ended m (suc i) held (spot m e)) (lift_cost m.cargo (suc i) (Some e.1)) 0) ≡ where_set (gone m (suc i) e.0) (costs m e.0)
    pair_cost e h =
        let p = pair m x facts i held is e h in
        let box : slice_get m.cargo.containers e.1 ≡ Some (container m e.1) = slice_get-get_or m.cargo.containers e.1 no_container p.box_known in
        let d : (container m e.1).dest ≡ (kind m (var m e.0).kind).dest = sym (ap (λ (g : ℕ). (kind m g).dest) p.alike ∙ facts.dest_of e.1 p.box_known) in
        let t = ended_is e h in
        rw (t, box, d) (cost_term (price m.cargo) (var m e.0).lifted (kind m (var m e.0).kind).dest (suc i) (facts.var_dest e.0 p.var_known))

    pub call_count : pos (counted (lift_cost m.cargo (suc i)) (ended m (suc i) held) old) ≡ ends_at (suc i)
    call_count =
        counted_sum (lift_cost m.cargo (suc i)) (ended m (suc i) held) old
        ∙ (shown_sum m x facts i held is old shows (λ p o. pos (cond (ended m (suc i) held p) (lift_cost m.cargo (suc i) o) 0)) (λ p. no_weight (ended m (suc i) held p))
        ∙ (same_total (λ (e : ℕ × ℕ). Member e held) _ _ held (each_from _ held (λ e h. h)) pair_cost
        ∙ (is.vars (λ v. where_set (gone m (suc i) v) (costs m v))
        ∙ same_sum (length (variables m)) _ _ (λ v l. ends_term (var m v).put (var m v).lifted i (x v) (costs m v) (facts.var_order v l)))))

  pub past_step : (i : ℕ) → ends_at (suc i) +ℤ ends_past (suc i) ≡ ends_past i
  past_step i = sym (plus_sum (length (variables m)) _ _) ∙ same_sum (length (variables m)) _ _ (λ v l. past_term (var m v).lifted i (x v) (costs m v))

  pub past_low : (i : ℕ) → pos 0 ≤ℤ ends_past i
  past_low i = low_sum (length (variables m)) _ (λ v. low_term (x v) _ _)

  -- the moves of a call lead from one plan to the next, and cost what ends there
  pub record HasCall (i : ℕ) (old new : Plan) : Type 0 where
    pub moves : List Move
    pub leads : LeadsTo m.ship m.cargo (suc i) old moves new
    pub counts : pos (cost_of_moves m.cargo (suc i) (start m.ship m.cargo (suc i) old) moves) ≡ ends_at (suc i)

  -- by any pairs after the call, and the plan that shows them
  pub call_from : (facts : Facts m) (solution : IsSolution m x) → IsDivided m.ship → (i : ℕ) → is_call m (suc i) ≡ true → (held : List (ℕ × ℕ)) → IsHeld m x i held → (old : Plan) → Shows m held old → IsStowed m.ship m.cargo i old → (n : IsNext m x i held) (plan : Plan) → Shows m (kept m (suc i) held ++ n.pairs) plan → HasCall i old plan
  call_from facts solution divided i call held is old shows before n plan shown =
      let now = kept m (suc i) held ++ n.pairs in
      let departs : IsDeparture m.ship m.cargo (suc i) plan = record {
        stowed = stowed m x facts (suc i) now n.is solution call plan shown;
        within = within m x facts (suc i) now n.is solution call plan shown;
        separated = separated m x facts (suc i) now n.is solution call plan shown;
      } in
      let order = λ (c : ℕ) (box : Container) (known : slice_get m.cargo.containers c ≡ Some box). subst (λ (k : Container). k.load < k.dest) (get_or_from_slice_get m.cargo.containers c box no_container known) (facts.in_order c (slice_get_within m.cargo.containers c box known)) in
      let leads = closed_leads m.ship m.cargo i old plan (ended m (suc i) held) divided order before departs
      (closed m x facts solution i call held is old shows before.supported n.pairs n.is n.put_now plan shown)
      (only m x facts solution i call held is old shows before.supported n.pairs n.is n.put_now plan shown) in
      record { moves = leads.0; leads = leads.1; counts = ap pos leads.2 ∙ call_count facts solution i held is old shows }

  -- a legal voyage over the calls that are left, which costs at most what ends in them
  pub record HasVoyage (i left : ℕ) (old : Plan) : Type 0 where
    pub plans : List Plan
    pub moves : List (List Move)
    pub as_many : length plans ≡ left
    pub legal : IsVoyage m.ship m.cargo (suc i) old moves plans
    pub counts : pos (cost m.ship m.cargo (suc i) old moves plans) ≤ℤ ends_past i

  pub voyage_from : (facts : Facts m) → IsSolution m x → IsDivided m.ship → (left i : ℕ) → i + left + 1 ≡ (calls m) → (held : List (ℕ × ℕ)) → IsHeld m x i held → (old : Plan) → Shows m held old → IsStowed m.ship m.cargo i old → HasVoyage i left old
  voyage_from facts solution divided zero i e held is old shows before = record { plans = []; moves = []; as_many = refl; legal = tt; counts = past_low i }
  voyage_from facts solution divided (suc left) i e held is old shows before =
      let call : is_call m (suc i) ≡ true = and_from _ _ (lt-ltb 0 (suc i) (omega arith)) (lt-ltb (suc i) (calls m) (omega arith)) in
      let n = next m x facts solution i call held is in
      let now = kept m (suc i) held ++ n.pairs in
      let plan = plan_now m x facts (suc i) now n.is solution call in
      let shown = shows_now m x facts (suc i) now n.is solution call in
      let here = call_from facts solution divided i call held is old shows before n plan shown in
      let leads = here.leads in
      let departs = leads.departure in
      let rest = voyage_from facts solution divided left (suc i) (omega arith) now n.is plan shown departs.stowed in
      record {
        plans = plan ∷ rest.plans;
        moves = here.moves ∷ rest.moves;
        as_many = let a = rest.as_many in omega arith;
        legal = (leads, rest.legal);
        counts = let a = here.counts in let b = rest.counts in let c = past_step i in omega (arith, ints, a, b, c);
      }
