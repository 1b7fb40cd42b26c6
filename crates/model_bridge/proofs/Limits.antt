-- Weights and separations of the plan after a call.
use Rattle.std.proofs.Common.{◌≡◌, ℕ, zero, suc, ◌<◌, Bool, true, false, cond, List, ℤ, pos, ◌-ℤ◌, arith, refl, sym, ◌∙◌, ap, length, Option, Some}
use Rattle.std.specs.Prelude.{◌==◌, ◌&&◌, slice_get, not, nat_eq}
use Rattle.std.proofs.lemmas.Bool.{both_ways, eq-eqb, lt-ltb, le-leb, and_parts, and_from, not-true, false_from_ne_true}
use Rattle.std.proofs.lemmas.Option.{same_Some, slice_get_within, get_or_from_slice_get}
use borrow.Author.Differences.{ints}
use Rattle.proof_trees.specs.Program.{sum_to, where_set}
use Rattle.stow_data.specs.declared.geometry.Stack.{Stack}
use Rattle.stow_data.specs.declared.cargoes.Container.{Container}
use Rattle.stow_data.specs.declared.geometry.Place.{Place}
use Rattle.stow_data.specs.declared.geometry.Separation.{Separation}
use Rattle.stow_data.specs.Ship.{places}
use Rattle.stow_data.specs.Plans.{Plan}
use Rattle.stowage_rules.specs.Departure.{weight_in}
use Rattle.stowage_rules.specs.Departure.{stack_weight}
use Rattle.stow_data.specs.Kinds.{rounded}
use Rattle.stowage_rules.specs.Departure.{IsWithinLimits}
use Rattle.stowage_rules.specs.Departure.{IsSeparated}
use Rattle.stow_data.specs.declared.kind_list.Kind.{Kind}
use Rattle.zero_one_rows.specs.declared.program.Row.TheVariants.{Weight, Apart}
use Rattle.zero_one_rows.specs.Variables.{Voyage, variables, var, kind, place}
use Rattle.model_bridge.proofs.Words.{container}
use Rattle.zero_one_rows.specs.Rows.{stack, separation, no_separation, active, occ_class, is_call, IsSolution, bit, less}
use Rattle.stow_data.specs.Plans.{no_stack, no_place}
use Rattle.model_bridge.proofs.Sums.{below_two}
use Rattle.model_bridge.proofs.Match.{same_total}
use Rattle.stow_data.proofs.Members.{Member}
use Rattle.stow_data.proofs.Distinct.{each_from}
use Rattle.model_bridge.proofs.Calls.{Facts, IsHeld}
use Rattle.model_bridge.proofs.Halves.{two_low, two_first, two_second}
use Rattle.model_bridge.proofs.Departures.{spot, Shows, pair, kind_same, box_is}
use Rattle.model_bridge.proofs.PlanSums.{shown_sum, stack_sum}
use Rattle.std.specs.Option.{option_eq}
use Rattle.std.specs.Cmp.{nat_eq_equiv}
use Rattle.std.specs.Cmp.Lexicographic.{pointwise}
use Rattle.std.proofs.lemmas.Cmp.{lists_equiv}
use Rattle.stow_data.specs.declared.geometry.Span.{Span}
use Rattle.stow_data.specs.declared.geometry.Span.TheVariants.{Fore, Aft, Both}
use Rattle.stow_data.specs.Near.{near, near_by, meets, has_column_in_common}

pub neg_where : (n : ℕ) (t : ℕ → Bool) (f g : ℕ → ℤ) → ((v : ℕ) → v < n → where_set (t v) (f v) ≡ pos 0 -ℤ g v) → sum_to n (λ v. where_set (t v) (f v)) ≡ pos 0 -ℤ sum_to n g
neg_where zero t f g h = refl
neg_where (suc n) t f g h = omega (arith, ints, neg_where n t f g (λ v l. h v (omega arith)), h n (omega arith))

pub weight_term : (t a b : Bool) (z : ℤ) → where_set t (pos 0 -ℤ where_set (b && a) z) ≡ pos 0 -ℤ where_set (t && a) (where_set b z)
weight_term true true true z = refl
weight_term true true false z = refl
weight_term true false true z = refl
weight_term true false false z = refl
weight_term false a b z = refl

module _ (m : Voyage) (x : ℕ → Bool) (facts : Facts m) (i : ℕ) (held : List (ℕ × ℕ)) (is : IsHeld m x i held) (plan : Plan) (shows : Shows m held plan) where
  abbrev pub weighs : ℕ → ℕ → ℤ
  weighs s v = where_set ((place m (var m v).place).stack == s) (pos (kind m (var m v).kind).kg)

  no_weight : (s : ℕ) (b : Bool) → pos (cond b 0 0) ≡ pos 0
  no_weight s true = refl
  no_weight s false = refl

  weigh : (b : Bool) (z w : ℕ) → z ≡ w → pos (cond b z 0) ≡ where_set b (pos w)
  weigh true z w e = ap pos e
  weigh false z w e = refl

  -- a pair's weight is its variable's
  pair_weight : (s : ℕ) (e : ℕ × ℕ) → Member e held → pos (weight_in m.ship.weight_step m.cargo s (place m (spot m e), Some e.1)) ≡ weighs s e.0
  pair_weight s e h =
      let k = box_is m x facts i held is e h in
      let same : (kind m (var m e.0).kind).kg ≡ rounded m.ship.weight_step (container m e.1).kg = ap (λ (z : Kind). z.kg) (kind_same m x facts i held is e h) in
      rw k (weigh ((place m (spot m e)).stack == s) _ _ (sym same))

  pub stack_total : (s : ℕ) → pos (stack_weight m.ship m.cargo plan s) ≡ sum_to (length (variables m)) (λ v. where_set (x v && active i (var m v)) (weighs s v))
  stack_total s =
      stack_sum (weight_in m.ship.weight_step m.cargo s) (places m.ship) plan shows.each_place
      ∙ (shown_sum m x facts i held is plan shows (λ p o. pos (weight_in m.ship.weight_step m.cargo s (place m p, o))) (λ p. no_weight s ((place m p).stack == s))
      ∙ (same_total (λ (e : ℕ × ℕ). Member e held) _ _ held (each_from _ held (λ e h. h)) (λ e h. pair_weight s e h)
      ∙ is.vars (weighs s)))

module _ (m : Voyage) (x : ℕ → Bool) (facts : Facts m) (i : ℕ) (held : List (ℕ × ℕ)) (is : IsHeld m x i held) (solution : IsSolution m x) (call : is_call m i ≡ true) (plan : Plan) (shows : Shows m held plan) where
  pub within : IsWithinLimits m.ship m.cargo plan
  within s st known =
      let row = solution (Weight i s) (and_from _ _ call (lt-ltb s _ (slice_get_within m.ship.stacks s st known))) in
      let same = neg_where (length (variables m)) x (λ v. pos 0 -ℤ where_set (((place m (var m v).place).stack == s) && active i (var m v)) (pos (kind m (var m v).kind).kg)) (λ v. where_set (x v && active i (var m v)) (weighs m x facts i held is plan shows s v)) (λ v l. weight_term (x v) (active i (var m v)) ((place m (var m v).place).stack == s) (pos (kind m (var m v).kind).kg)) in
      let limit : (stack m s).limit_kg ≡ st.limit_kg = ap (λ (k : Stack). k.limit_kg) (get_or_from_slice_get m.ship.stacks s st no_stack known) in
      omega (arith, ints, row, same, stack_total m x facts i held is plan shows s)

  -- a place isn't near itself
  columns_shared : (s : Span) → has_column_in_common s s ≡ true
  columns_shared Fore = refl
  columns_shared Aft = refl
  columns_shared Both = refl

  meets_itself : (p : Place) → meets p p ≡ true
  meets_itself p = and_from _ _ (eq-eqb p.stack p.stack refl) (and_from _ _ (eq-eqb p.tier p.tier refl) (columns_shared p.span))

  not_near_itself : (level : ℕ) (p : Place) → near m.ship level p p ≡ true → ⊥
  not_near_itself level p h = both_ways (meets p p) (not-true (meets p p) (and_parts (near_by m.ship level p p) (not (meets p p)) h).1) (meets_itself p)

  of_class : (o : Option (List ℕ)) (c : List ℕ) → o ≡ Some c → option_eq (pointwise nat_eq) o (Some c) ≡ true
  of_class o c h = ap (λ (z : Option (List ℕ)). option_eq (pointwise nat_eq) z (Some c)) h ∙ (lists_equiv {E = nat_eq} nat_eq_equiv).refl c

  -- a pair of this class at this place
  class_true : (e : ℕ × ℕ) (p c : ℕ) (class : List ℕ) (box : Container) → Member e held → spot m e ≡ p → e.1 ≡ c → slice_get m.cargo.containers c ≡ Some box → box.class ≡ Some class → occ_class m i p class (var m e.0) ≡ true
  class_true e p c class box h here what known is_class =
      let k = pair m x facts i held is e h in
      let same : box ≡ container m e.1 = same_Some _ _ (sym known ∙ (ap (slice_get m.cargo.containers) (sym what) ∙ box_is m x facts i held is e h)) in
      and_from _ _ (eq-eqb _ _ here) (and_from _ _
      (of_class _ class (ap (λ (z : Kind). z.class) (kind_same m x facts i held is e h) ∙ (ap (λ (z : Container). z.class) (sym same) ∙ is_class)))
      (and_from _ _ (le-leb _ i k.put) (lt-ltb i _ k.lifted)))

  pub separated : IsSeparated m.ship m.cargo plan
  separated e rule p q c d first second box_c box_d known stands_p stands_q class_c class_d = false_from_ne_true (near m.ship rule.level first second) (λ close_by.
      let a = shows.from_plan p c stands_p.holds in
      let b = shows.from_plan q d stands_q.holds in
      let at_p = stands_p.is_place in
      let at_q = stands_q.is_place in
      let r : separation m e ≡ rule = get_or_from_slice_get m.ship.separations e rule no_separation known in
      let pp : place m p ≡ first = get_or_from_slice_get (places m.ship) p first no_place at_p in
      let pq : place m q ≡ second = get_or_from_slice_get (places m.ship) q second no_place at_q in
      let close : near m.ship (separation m e).level (place m p) (place m q) ≡ true = ap (λ (z : Separation). near m.ship z.level (place m p) (place m q)) r ∙ (ap (λ (z : Place). near m.ship rule.level z (place m q)) pp ∙ (ap (near m.ship rule.level first) pq ∙ close_by)) in
      let other : p ≡ q → ⊥ = λ same. not_near_itself (separation m e).level (place m q) (ap (λ (z : ℕ). near m.ship (separation m e).level (place m z) (place m q)) (sym same) ∙ close) in
      let exists = and_from _ _ call (and_from _ _ (lt-ltb e _ (slice_get_within m.ship.separations e rule known)) (and_from _ _ (lt-ltb p _ (slice_get_within (places m.ship) p first at_p)) (and_from _ _ (lt-ltb q _ (slice_get_within (places m.ship) q second at_q)) close))) in
      let row = solution (Apart i e p q) exists in
      let low = below_two (length (variables m)) (λ v. where_set (x v) (less (occ_class m i p (separation m e).a (var m v)) -ℤ bit (occ_class m i q (separation m e).b (var m v)))) (λ v l. two_low (x v) _ _) a.0.0 b.0.0 (pair m x facts i held is a.0 a.1).var_known (pair m x facts i held is b.0 b.1).var_known
      (λ same. other (sym a.2 ∙ (ap (λ (v : ℕ). (var m v).place) same ∙ b.2))) in
      let f = two_first (x a.0.0) (occ_class m i p (separation m e).a (var m a.0.0)) (occ_class m i q (separation m e).b (var m a.0.0)) (pair m x facts i held is a.0 a.1).is_one (ap (λ (z : Separation). occ_class m i p z.a (var m a.0.0)) r ∙ class_true a.0 p c rule.a box_c a.1 a.2 a.3 stands_p.is_container class_c) in
      let g = two_second (x b.0.0) (occ_class m i p (separation m e).a (var m b.0.0)) (occ_class m i q (separation m e).b (var m b.0.0)) (pair m x facts i held is b.0 b.1).is_one (ap (λ (z : Separation). occ_class m i q z.b (var m b.0.0)) r ∙ class_true b.0 q d rule.b box_d b.1 b.2 b.3 stands_q.is_container class_d) in
      omega (arith, ints, row, low, f, g))
