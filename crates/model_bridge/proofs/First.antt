-- The pairs of the arrival, variable by variable.
use Rattle.std.proofs.Common.{◌≡◌, ℕ, ◌<◌, ◌+◌, Bool, true, false, cond, List, [], ◌∷◌, ℤ, ◌+ℤ◌, arith, refl, ap, sym, subst, ◌∙◌, length, Option, Some, None}
use Rattle.std.specs.Prelude.{◌==◌, ◌&&◌, nat_le, nat_lt, slice_get}
use Rattle.std.proofs.lemmas.Bool.{and_from, and_parts, eqb-true, eq-eqb, le-leb, lt-ltb, leb-true, ltb-true}
use Rattle.std.proofs.lemmas.Bool.Decides.{nat_tests}
use Rattle.std.proofs.lemmas.Option.{none-some, same_Some, slice_get_within}
use borrow.Author.Differences.{ints}
use Rattle.stow_data.specs.Plans.{held as held_in}
use Rattle.stow_data.proofs.Members.{Member}
use Rattle.stow_data.proofs.Distinct.{Each, each_at, each_from}
use Rattle.stow_data.proofs.PlanLookups.{held_is, is_held}
use Rattle.stowage_rules.specs.Plan.{Holds}
use Rattle.proof_trees.specs.Program.{sum_to, where_set}
use Rattle.zero_one_rows.specs.Variables.{Voyage, variables, var}
use Rattle.zero_one_rows.specs.Rows.{active, IsSolution, bit}
use Rattle.stow_data.specs.Plans.{Plan}
use Rattle.plan_lifts.proofs.Whole.{ship_is_divided}
use Rattle.zero_one_rows.specs.Variables.{calls}
use Rattle.model_bridge.specs.Laws.{IsProblem, Sails}
use Rattle.model_bridge.proofs.Walk.{ArePlansOf, plans_sail}
use Rattle.model_bridge.proofs.Voyage.{costs}
use Rattle.model_bridge.proofs.Words.{container, kind_at, box_at}
use Rattle.model_bridge.proofs.Sums.{same_sum}
use Rattle.model_bridge.proofs.Match.{total}
use Rattle.model_bridge.proofs.Calls.{IsPair, IsHeld, aboard}
use Rattle.model_bridge.proofs.Members.{Differ, differ_more, differ_from, member_often, one_number}
use Rattle.model_bridge.proofs.Halves.{counts_one}
use Rattle.model_bridge.proofs.Departures.{Shows}
use Rattle.model_bridge.proofs.Carry.{list_sum}
use Rattle.model_bridge.proofs.Known.{facts, begins, starter, starts, begin_parts, one_start, begun_there}

abbrev pub with_pair : Option ℕ → ℕ → List (ℕ × ℕ) → List (ℕ × ℕ)
with_pair None v es = es
with_pair (Some c) v es = (v, c) ∷ es

-- each variable of a list that is put at call 0, with what stands at its place at arrival
abbrev pub arrival_pairs : Voyage → List ℕ → List (ℕ × ℕ)
arrival_pairs m [] = []
arrival_pairs m (v ∷ vs) = cond ((var m v).put == 0) (with_pair (held_in m.cargo.arrival (var m v).place) v (arrival_pairs m vs)) (arrival_pairs m vs)

-- the list has the variables that are 1
pub record AreOnes (m : Voyage) (x : ℕ → Bool) (vs : List ℕ) : Type 0 where
  pub each : Each (λ v. (v < length (variables m)) × (x v ≡ true)) vs
  pub bag : (w : ℕ → ℤ) → total w vs ≡ sum_to (length (variables m)) (λ v. where_set (x v) (w v))

start_term : (put lifted : ℕ) (t : Bool) (z : ℤ) → put < lifted → where_set t (where_set (put == 0) z) ≡ where_set (t && (nat_le put 0 && nat_lt 0 lifted)) z
start_term put lifted true z l = grind (arith, nat_tests, ints)
start_term put lifted false z l = refl

module _ (m : Voyage) (rules : IsProblem m) (x : ℕ → Bool) (solution : IsSolution m x) (vs : List ℕ) (ones : AreOnes m x vs) where
  abbrev first : List (ℕ × ℕ)
  first = arrival_pairs m vs

  abbrev One : ℕ → Type 0
  One v = (v < length (variables m)) × (x v ≡ true)

  abbrev Begun : ℕ × ℕ → Type 0
  Begun e = One e.0 × ((var m e.0).put ≡ 0) × Holds m.cargo.arrival (var m e.0).place e.1

  begun_more : (v : ℕ) (es : List (ℕ × ℕ)) → One v → Each Begun es → (b : Bool) → ((var m v).put == 0) ≡ b → (o : Option ℕ) → held_in m.cargo.arrival (var m v).place ≡ o → Each Begun (cond b (with_pair o v es) es)
  begun_more v es one each false e o h = each
  begun_more v es one each true e None h = each
  begun_more v es one each true e (Some c) h = ((one, eqb-true _ _ e, is_held m.cargo.arrival (var m v).place c h), each)

  begun_each : (us : List ℕ) → Each One us → Each Begun (arrival_pairs m us)
  begun_each [] h = tt
  begun_each (v ∷ us) h = begun_more v (arrival_pairs m us) h.0 (begun_each us h.1) ((var m v).put == 0) refl (held_in m.cargo.arrival (var m v).place) refl

  begun : (e : ℕ × ℕ) → Member e first → Begun e
  begun e h = each_at Begun first e (begun_each vs ones.each) h

  pairs_good : Each (IsPair m x 0) first
  pairs_good = each_from _ first (λ e h.
      let b = begun e h in
      let v = e.0 in
      let known = rules.arrives.well_formed.known (var m v).place e.1 b.2 in
      let low : e.1 < length m.cargo.containers = slice_get_within m.cargo.containers e.1 known.0 known.1 in
      let on = (rules.arrives.aboard e.1 (container m e.1) (box_at m e.1 low)).0 ((var m v).place, b.2) in
      let f = facts m rules in
      let r = begun_there m rules x solution v b.0.0 b.1 in
      let same : r.0 ≡ e.1 = same_Some r.0 e.1 (same_Some (Some r.0) (Some e.1) (sym r.1 ∙ b.2)) in
      record {
        var_known = b.0.0;
        is_one = b.0.1;
        put = omega (arith, b.1);
        lifted = omega (arith, f.var_order v b.0.0);
        box_known = low;
        load = on.loaded;
        dest = on.stays;
        alike = sym r.2 ∙ ap (kind_at m) same;
      })

  one_more : (w : ℕ → ℤ) (v : ℕ) (es : List (ℕ × ℕ)) → One v → (b : Bool) → ((var m v).put == 0) ≡ b → (o : Option ℕ) → held_in m.cargo.arrival (var m v).place ≡ o
      → total (λ (e : ℕ × ℕ). w e.0) (cond b (with_pair o v es) es) ≡ where_set b (w v) +ℤ total (λ (e : ℕ × ℕ). w e.0) es
  one_more w v es one false e o h = omega (arith, ints)
  one_more w v es one true e (Some c) h = refl
  one_more w v es one true e None h = absurd (
      let r = begun_there m rules x solution v one.0 (eqb-true _ _ e) in
      none-some r.0 (sym h ∙ held_is m.cargo.arrival (var m v).place (Some r.0) r.1))

  ones_first : (w : ℕ → ℤ) (us : List ℕ) → Each One us → total (λ (e : ℕ × ℕ). w e.0) (arrival_pairs m us) ≡ total (λ v. where_set ((var m v).put == 0) (w v)) us
  ones_first w [] h = refl
  ones_first w (v ∷ us) h = omega (arith, ints, one_more w v (arrival_pairs m us) h.0 ((var m v).put == 0) refl (held_in m.cargo.arrival (var m v).place) refl, ones_first w us h.1)

  vars_first : (w : ℕ → ℤ) → total (λ (e : ℕ × ℕ). w e.0) first ≡ sum_to (length (variables m)) (λ v. where_set (x v && active 0 (var m v)) (w v))
  vars_first w =
      ones_first w vs ones.each ∙ (ones.bag (λ v. where_set ((var m v).put == 0) (w v))
      ∙ same_sum (length (variables m)) _ _ (λ v l. let f = facts m rules in start_term (var m v).put (var m v).lifted (x v) (w v) (f.var_order v l)))

  vars_differ : Differ (λ (e : ℕ × ℕ). e.0) first
  vars_differ = differ_from _ first (λ a. let h = vars_first (λ v. bit (v == a)) in let k = one_number (length (variables m)) (λ v. x v && active 0 (var m v)) a in omega (arith, ints))

  begins_there : (e : ℕ × ℕ) → Member e first → begins m rules x solution (var m e.0).place e.0 ≡ true
  begins_there e h = let b = begun e h in and_from _ _ b.0.1 (and_from _ _ (eq-eqb _ 0 b.1) (eq-eqb (var m e.0).place _ refl))

  boxes_differ : Differ (λ (e : ℕ × ℕ). e.1) first
  boxes_differ = differ_more (λ (e : ℕ × ℕ). Member e first) (λ (e : ℕ × ℕ). e.0) (λ (e : ℕ × ℕ). e.1) first (λ e d a b other same.
      let p = begun e a in let q = begun d b in
      let place : (var m e.0).place ≡ (var m d.0).place = rules.arrives.well_formed.once (var m e.0).place (var m d.0).place e.1 p.2 (subst (λ (c : ℕ). Holds m.cargo.arrival (var m d.0).place c) (sym same) q.2) in
      other (one_start m rules x solution (var m e.0).place e.1 e.0 d.0 p.2 p.0.0 q.0.0 (begins_there e a) (subst (λ (z : ℕ). begins m rules x solution z d.0 ≡ true) (sym place) (begins_there d b))))
      (each_from _ first (λ e h. h)) vars_differ

  -- the pair of a place that is filled at arrival
  at_place : (p c : ℕ) → Holds m.cargo.arrival p c → (e : ℕ × ℕ) × Member e first × ((var m e.0).place ≡ p) × (e.1 ≡ c)
  at_place p c h =
      let v = starter m rules x solution p in
      let s = starts m rules x solution p c h in
      let b = begin_parts m rules x solution p v s.1 in
      let f = facts m rules in
      let r = member_often (λ (e : ℕ × ℕ). e.0) v first
      (let k = vars_first (λ w. bit (w == v)) in let l = counts_one (length (variables m)) (λ v. x v && active 0 (var m v)) v s.0 (and_from (x v) (active 0 (var m v)) b.0 (and_from _ _ (le-leb (var m v).put 0 (omega (arith, b.1))) (lt-ltb 0 (var m v).lifted (omega (arith, f.var_order v s.0))))) in omega (arith, ints)) in
      let there : (var m r.0.0).place ≡ p = ap (λ (w : ℕ). (var m w).place) r.2 ∙ b.2 in
      (r.0, r.1, there, same_Some r.0.1 c (same_Some (Some r.0.1) (Some c) (sym (begun r.0 r.1).2 ∙ (ap (slice_get m.cargo.arrival) there ∙ h))))

  pub held_first : IsHeld m x 0 first
  held_first = record {
    each = pairs_good;
    vars = vars_first;
    boxes = list_sum (λ (e : ℕ × ℕ). e.1) first (length m.cargo.containers) (aboard m 0) boxes_differ
        (each_from _ first (λ e h. let p = each_at _ first e pairs_good h in (p.box_known, and_from _ _ (le-leb _ 0 p.load) (lt-ltb 0 _ p.dest))))
        (λ c l h. let b = and_parts (nat_le (container m c).load 0) _ h in
        let r = (rules.arrives.aboard c (container m c) (box_at m c l)).1 (record { loaded = leb-true _ _ b.0; stays = ltb-true _ _ b.1 }) in
        let e = at_place r.0 c r.1 in (e.0, e.1, e.3));
  }

  pub shows_first : Shows m first m.cargo.arrival
  shows_first = record {
    each_place = rules.arrives.well_formed.each_place;
    from_plan = at_place;
    to_plan = λ e h. (begun e h).2;
  }

-- plans that are made so, from the variables that are 1, are those of a legal voyage that costs at most what these do
pub made_plans_sail : (m : Voyage) → IsProblem m → (x : ℕ → Bool) → IsSolution m x → (vs : List ℕ) → AreOnes m x vs → (plans : List Plan) → length plans + 1 ≡ calls m → ArePlansOf m x 0 (arrival_pairs m vs) plans → (s : Sails m x) × (s.plans ≡ plans)
made_plans_sail m rules x solution vs ones plans e are =
    let f = facts m rules in
    let r = plans_sail m x f solution (ship_is_divided m.ship rules.ship) 0 plans (omega arith) (arrival_pairs m vs) (held_first m rules x solution vs ones) m.cargo.arrival (shows_first m rules x solution vs ones) rules.arrives are in
    let v = r.0 in
    let same = same_sum (length (variables m)) (λ v. where_set (x v) (where_set (nat_lt 0 (var m v).lifted) (costs m v))) (λ v. where_set (x v) (costs m v)) (λ v l. ap (λ (b : Bool). where_set (x v) (where_set b (costs m v))) (lt-ltb 0 (var m v).lifted (let o = f.var_order v l in omega arith))) in (
      record { plans = v.plans; moves = v.moves; legal = record { each_call = (let a = v.as_many in omega arith); voyage = v.legal }; cheap = omega (arith, ints, v.counts, same) },
      r.1,
    )
