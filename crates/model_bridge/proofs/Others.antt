-- Start, twenty, weight and apart are met; the assignment of legal plans shows them.
use Rattle.std.proofs.Common.{◌≡◌, ℕ, zero, suc, ◌<◌, ◌+◌, ◌-◌, Bool, true, false, List, [], ◌∷◌, pos, ◌+ℤ◌, ◌-ℤ◌, ◌≤ℤ◌, arith, refl, sym, ◌∙◌, ap, ⊎_elim, subst, length, Option, Some, None}
use Rattle.std.specs.Prelude.{◌==◌, ◌&&◌, nat_le, nat_lt, slice_get, slice_index_or, nat_eq}
use Rattle.std.proofs.lemmas.Bool.{cases_eq, cases_Bool, both_ways, eqb-true, eq-eqb, ne_eqb, and_parts, and_from, not-true, not_from_false}
use Rattle.std.proofs.lemmas.Bool.Decides.{nat_tests}
use Rattle.std.proofs.lemmas.Option.{same_Some, get_or_from_slice_get, slice_get-get_or}
use borrow.Author.Differences.{ints}
use Rattle.proof_trees.specs.Program.{sum_to, where_set}
use Rattle.stow_data.specs.declared.geometry.Length.{Length}
use Rattle.stow_data.specs.declared.geometry.Length.TheVariants as long_of
use Rattle.stow_data.specs.declared.cargoes.Container.{Container}
use Rattle.stow_data.specs.declared.geometry.Stack.{Stack}
use Rattle.stow_data.specs.Ship.{places}
use Rattle.stow_data.specs.Plans.{Plan}
use Rattle.stowage_rules.specs.Plan.{Holds}
use Rattle.stowage_rules.specs.Plan.{Fills}
use Rattle.stow_data.specs.declared.kind_list.Kind.{Kind}
use Rattle.zero_one_rows.specs.declared.program.Row.TheVariants.{Start, Twenty, Weight, Apart}
use Rattle.zero_one_rows.specs.Variables.{Voyage, variables, var, kind, place, calls}
use Rattle.model_bridge.proofs.Words.{container, at_half}
use Rattle.zero_one_rows.specs.Rows.{active, occ20, occ_class, is_twenty, below, half, stack, separation, no_separation, coef, rhs, bit, less, is_filled}
use Rattle.stow_data.specs.Plans.{no_stack, no_place}
use Rattle.std.specs.Option.{option_eq}
use Rattle.std.specs.Cmp.Lexicographic.{pointwise, same_text}
use Rattle.stow_data.specs.Near.{near}
use Rattle.stowage_rules.specs.Departure.{IsTwenty}
use Rattle.model_bridge.proofs.Stays.{kept, assignment}
use Rattle.model_bridge.proofs.Sums.{same_sum}
use Rattle.model_bridge.proofs.Match.{total}
use Rattle.stow_data.proofs.Members.{Member}
use Rattle.model_bridge.proofs.Calls.{Facts, IsHeld, gone}
use Rattle.model_bridge.proofs.Departures.{spot, on_half, pair, fills_pair, pair_fills, kind_same, box_is}
use Rattle.model_bridge.proofs.PlanSums.{spots_differ}
use Rattle.model_bridge.proofs.Limits.{neg_where, weight_term, weighs, stack_total}
use Rattle.model_bridge.proofs.Meets.{IsShown, passing, one_passes, most_one, one_in_all, as_many, total_gap}
use Rattle.model_bridge.specs.Laws.{IsProblem}
use Rattle.model_bridge.proofs.Stays.{IsSailed}
use Rattle.model_bridge.proofs.Known.{facts}
use Rattle.model_bridge.proofs.Carry.{pairs_of, shows_plan, held_plan}
use Rattle.model_bridge.proofs.PlaceRuns.{run_of, run_holds, carried, chosen}

start_term : (put lifted : ℕ) (t b : Bool) → put < lifted → where_set t (bit ((put == 0) && b)) ≡ where_set (t && (nat_le put 0 && nat_lt 0 lifted)) (bit b)
start_term put lifted true true l = grind (arith, nat_tests, ints)
start_term put lifted true false l = grind (arith, nat_tests, ints)
start_term put lifted false b l = refl

minus_term : (put lifted : ℕ) (t b : Bool) → put < lifted → where_set t (pos 0 -ℤ bit ((put == 0) && b)) ≡ pos 0 -ℤ where_set (t && (nat_le put 0 && nat_lt 0 lifted)) (bit b)
minus_term put lifted true true l = grind (arith, nat_tests, ints)
minus_term put lifted true false l = grind (arith, nat_tests, ints)
minus_term put lifted false b l = refl

gap20 : (t a s b s' c : Bool) → where_set t (bit (s && (b && a)) -ℤ bit (s' && (c && a))) ≡ where_set (t && a) (bit (s && b) -ℤ bit (s' && c))
gap20 true true true true true true = refl
gap20 true true true true true false = refl
gap20 true true true true false c = refl
gap20 true true true false true true = refl
gap20 true true true false true false = refl
gap20 true true true false false c = refl
gap20 true true false b true true = refl
gap20 true true false b true false = refl
gap20 true true false b false c = refl
gap20 true false true true true true = refl
gap20 true false true true true false = refl
gap20 true false true true false c = refl
gap20 true false true false true true = refl
gap20 true false true false true false = refl
gap20 true false true false false c = refl
gap20 true false false b true true = refl
gap20 true false false b true false = refl
gap20 true false false b false c = refl
gap20 false a s b s' c = refl

class_term : (t a p k q l : Bool) → where_set t (less (p && (k && a)) -ℤ bit (q && (l && a))) ≡ where_set (t && a) (less (p && k) -ℤ bit (q && l))
class_term true true true true true true = refl
class_term true true true true true false = refl
class_term true true true true false l = refl
class_term true true true false true true = refl
class_term true true true false true false = refl
class_term true true true false false l = refl
class_term true true false k true true = refl
class_term true true false k true false = refl
class_term true true false k false l = refl
class_term true false true true true true = refl
class_term true false true true true false = refl
class_term true false true true false l = refl
class_term true false true false true true = refl
class_term true false true false true false = refl
class_term true false true false false l = refl
class_term true false false k true true = refl
class_term true false false k true false = refl
class_term true false false k false l = refl
class_term false a p k q l = refl

total_two : {X : Type 0} (t u : X → Bool) (xs : List X) → total (λ x. less (t x) -ℤ bit (u x)) xs ≡ pos 0 -ℤ (passing t xs +ℤ passing u xs)
total_two t u [] = refl
total_two t u (x ∷ xs) = omega (arith, ints, total_two t u xs)

module _ (m : Voyage) (x : ℕ → Bool) (known : Facts m) (plan : ℕ → Plan) (lift : ℕ → ℕ → Bool) (held : ℕ → List (ℕ × ℕ)) (shown : IsShown m x plan lift held) where
  abbrev n : ℕ
  n = length (variables m)

  started : (p c : ℕ) → 0 < (calls m) → Holds (plan 0) p c → passing (λ (e : ℕ × ℕ). spot m e == p) (held 0) ≡ pos 1
  started p c l h =
      let e = (shown.shows 0 l).from_plan p c h in
      let low = one_passes (λ (e : ℕ × ℕ). spot m e == p) (held 0) e.0 e.1 (eq-eqb _ p e.2) in
      let high = most_one (spot m) (λ (e : ℕ × ℕ). spot m e == p) (held 0) (spots_differ m x known 0 (held 0) (shown.holds 0 l) (plan 0) (shown.shows 0 l)) (λ e d a b s t. eqb-true _ _ s ∙ sym (eqb-true _ _ t)) in
      omega (arith, ints)

  pub met_start : (q p c : ℕ) → 0 < (calls m) → Holds (plan 0) p c → rhs m (Start q p) ≤ℤ sum_to n (λ v. where_set (x v) (coef m (Start q p) (var m v)))
  met_start zero p c l h =
      let a = same_sum n (λ v. where_set (x v) (bit (((var m v).put == 0) && ((var m v).place == p)))) (λ v. where_set (x v && active 0 (var m v)) (bit ((var m v).place == p))) (λ v k. start_term (var m v).put (var m v).lifted (x v) _ (known.var_order v k)) in
      omega (arith, ints, a, (shown.holds 0 l).vars (λ v. bit ((var m v).place == p)), started p c l h)
  met_start (suc q) p c l h =
      let a = neg_where n x (λ v. pos 0 -ℤ bit (((var m v).put == 0) && ((var m v).place == p))) (λ v. where_set (x v && active 0 (var m v)) (bit ((var m v).place == p))) (λ v k. minus_term (var m v).put (var m v).lifted (x v) _ (known.var_order v k)) in
      omega (arith, ints, a, (shown.holds 0 l).vars (λ v. bit ((var m v).place == p)), started p c l h)

  pub met_weight : (i s : ℕ) (st : Stack) → suc i < (calls m) → slice_get m.ship.stacks s ≡ Some st → rhs m (Weight (suc i) s) ≤ℤ sum_to n (λ v. where_set (x v) (coef m (Weight (suc i) s) (var m v)))
  met_weight i s st l at_s =
      let same = neg_where n x (λ v. pos 0 -ℤ where_set (((place m (var m v).place).stack == s) && active (suc i) (var m v)) (pos (kind m (var m v).kind).kg)) (λ v. where_set (x v && active (suc i) (var m v)) (weighs m x known (suc i) (held (suc i)) (shown.holds (suc i) l) (plan (suc i)) (shown.shows (suc i) l) s v)) (λ v k. weight_term (x v) (active (suc i) (var m v)) ((place m (var m v).place).stack == s) (pos (kind m (var m v).kind).kg)) in
      let limit : (stack m s).limit_kg ≡ st.limit_kg = ap (λ (k : Stack). k.limit_kg) (get_or_from_slice_get m.ship.stacks s st no_stack at_s) in
      let t = stack_total m x known (suc i) (held (suc i)) (shown.holds (suc i) l) (plan (suc i)) (shown.shows (suc i) l) s in
      let w = (shown.departs i l).within s st at_s in
      omega (arith, ints, same, t, w)

  twenty_at : (l : Length) → is_twenty l ≡ true → l ≡ long_of.Twenty
  twenty_at long_of.Twenty h = refl
  twenty_at long_of.Forty h = absurd (both_ways false refl h)

  box_twenty : (i : ℕ) (l : i < (calls m)) (e : ℕ × ℕ) → Member e (held i) → is_twenty (kind m (var m e.0).kind).long ≡ true → IsTwenty m.cargo e.1
  box_twenty i l e h t = (container m e.1, box_is m x known i (held i) (shown.holds i l) e h, twenty_at _ (ap (λ (k : Kind). is_twenty k.long) (sym (kind_same m x known i (held i) (shown.holds i l) e h)) ∙ t))

  twenty_box : (i : ℕ) (l : i < (calls m)) (e : ℕ × ℕ) → Member e (held i) → IsTwenty m.cargo e.1 → is_twenty (kind m (var m e.0).kind).long ≡ true
  twenty_box i l e h t =
      let box : t.0 ≡ container m e.1 = same_Some _ _ (sym t.1 ∙ box_is m x known i (held i) (shown.holds i l) e h) in
      ap (λ (k : Kind). is_twenty k.long) (kind_same m x known i (held i) (shown.holds i l) e h) ∙ (ap (λ (k : Container). is_twenty k.long) (sym box) ∙ ap is_twenty t.2)

  pub met_twenty : (i h : ℕ) → i < (calls m) → 0 < (half m h).tier → rhs m (Twenty i h) ≤ℤ sum_to n (λ v. where_set (x v) (coef m (Twenty i h) (var m v)))
  met_twenty i h l high =
      let small : ℕ × ℕ → Bool = λ e. is_twenty (kind m (var m e.0).kind).long in
      let a = same_sum n (λ v. where_set (x v) (bit (occ20 m i (below (half m h)) (var m v)) -ℤ bit (occ20 m i (half m h) (var m v)))) (λ v. where_set (x v && active i (var m v)) (bit (is_twenty (kind m (var m v).kind).long && at_half m (below (half m h)) (var m v)) -ℤ bit (is_twenty (kind m (var m v).kind).long && at_half m (half m h) (var m v)))) (λ v k. gap20 (x v) (active i (var m v)) _ _ _ _) in
      let b = (shown.holds i l).vars (λ v. bit (is_twenty (kind m (var m v).kind).long && at_half m (below (half m h)) (var m v)) -ℤ bit (is_twenty (kind m (var m v).kind).long && at_half m (half m h) (var m v))) in
      let c = total_gap (λ (e : ℕ × ℕ). is_twenty (kind m (var m e.0).kind).long && on_half m e (below (half m h))) (λ (e : ℕ × ℕ). is_twenty (kind m (var m e.0).kind).long && on_half m e (half m h)) (held i) in
      let one = most_one (spot m) (λ (e : ℕ × ℕ). is_twenty (kind m (var m e.0).kind).long && on_half m e (half m h)) (held i) (spots_differ m x known i (held i) (shown.holds i l) (plan i) (shown.shows i l))
      (λ e d p q s t. (shown.stowed i l).well_formed.apart (half m h) e.1 d.1 (pair_fills m x known i (held i) (shown.holds i l) (plan i) (shown.shows i l) e (half m h) p (and_parts (small e) _ s).1) (pair_fills m x known i (held i) (shown.holds i l) (plan i) (shown.shows i l) d (half m h) q (and_parts (small d) _ t).1)) in
      let d = as_many (λ (e : ℕ × ℕ). is_twenty (kind m (var m e.0).kind).long && on_half m e (half m h)) (λ (e : ℕ × ℕ). is_twenty (kind m (var m e.0).kind).long && on_half m e (below (half m h))) (held i) one (λ e k t.
      let u = and_parts (small e) _ t in
      let same : (half m h).tier ≡ (half m h).tier - 1 + 1 = omega arith in
      let up = subst (λ (z : ℕ). Fills m.ship (plan i) (record { stack = (half m h).stack; tier = z; aft = (half m h).aft }) e.1) same (pair_fills m x known i (held i) (shown.holds i l) (plan i) (shown.shows i l) e (half m h) k u.1) in
      let f = (shown.stowed i l).supported (half m h).stack ((half m h).tier - 1) (half m h).aft e.1 up in
      let r = fills_pair m x known i (held i) (shown.holds i l) (plan i) (shown.shows i l) (below (half m h)) f.0 f.1 in
      let w = (shown.stowed i l).twenty (half m h).stack ((half m h).tier - 1) (half m h).aft e.1 f.0 up f.1 (box_twenty i l e k u.0) in
      (r.0, r.1, and_from _ _ (twenty_box i l r.0 r.1 (subst (IsTwenty m.cargo) (sym r.3) w)) r.2)) in
      omega (arith, ints, a, b, c, d)

  class_from : (o : Option (List ℕ)) (c : List ℕ) → option_eq (pointwise nat_eq) o (Some c) ≡ true → o ≡ Some c
  class_from (Some a) c h = ap (λ (z : List ℕ). Some z) (same_text a c (sym h))
  class_from None c h = absurd (both_ways false refl h)

  box_class : (i : ℕ) (l : i < (calls m)) (e : ℕ × ℕ) (c : List ℕ) → Member e (held i) → option_eq (pointwise nat_eq) (kind m (var m e.0).kind).class (Some c) ≡ true → (container m e.1).class ≡ Some c
  box_class i l e c h t = sym (ap (λ (k : Kind). k.class) (kind_same m x known i (held i) (shown.holds i l) e h)) ∙ class_from _ c t

  abbrev of_class : ℕ → List ℕ → ℕ → Bool
  of_class p c v = ((var m v).place == p) && option_eq (pointwise nat_eq) (kind m (var m v).kind).class (Some c)

  pub met_apart : (i e p q : ℕ) → suc i < (calls m) → e < length m.ship.separations → p < length (places m.ship) → q < length (places m.ship) → near m.ship (separation m e).level (place m p) (place m q) ≡ true
      → rhs m (Apart (suc i) e p q) ≤ℤ sum_to n (λ v. where_set (x v) (coef m (Apart (suc i) e p q) (var m v)))
  met_apart i e p q l el pl ql close =
      let rule = separation m e in
      let at_e : slice_get m.ship.separations e ≡ Some rule = slice_get-get_or m.ship.separations e no_separation el in
      let at_p : slice_get (places m.ship) p ≡ Some (place m p) = slice_get-get_or (places m.ship) p no_place pl in
      let at_q : slice_get (places m.ship) q ≡ Some (place m q) = slice_get-get_or (places m.ship) q no_place ql in
      let a = same_sum n (λ v. where_set (x v) (less (occ_class m (suc i) p rule.a (var m v)) -ℤ bit (occ_class m (suc i) q rule.b (var m v)))) (λ v. where_set (x v && active (suc i) (var m v)) (less (of_class p rule.a v) -ℤ bit (of_class q rule.b v))) (λ v k. class_term (x v) (active (suc i) (var m v)) _ _ _ _) in
      let b = (shown.holds (suc i) l).vars (λ v. less (of_class p rule.a v) -ℤ bit (of_class q rule.b v)) in
      let c = total_two (λ (z : ℕ × ℕ). of_class p rule.a z.0) (λ (z : ℕ × ℕ). of_class q rule.b z.0) (held (suc i)) in
      let differ = spots_differ m x known (suc i) (held (suc i)) (shown.holds (suc i) l) (plan (suc i)) (shown.shows (suc i) l) in
      let d = one_in_all (λ (z : ℕ × ℕ). of_class p rule.a z.0) (λ (z : ℕ × ℕ). of_class q rule.b z.0) (held (suc i)) (held (suc i))
      (most_one (spot m) _ (held (suc i)) differ (λ y z f g s t. eqb-true _ _ (and_parts (spot m y == p) _ s).0 ∙ sym (eqb-true _ _ (and_parts (spot m z == p) _ t).0)))
      (most_one (spot m) _ (held (suc i)) differ (λ y z f g s t. eqb-true _ _ (and_parts (spot m y == q) _ s).0 ∙ sym (eqb-true _ _ (and_parts (spot m z == q) _ t).0)))
      (λ y z f g s t.
      let u = and_parts (spot m y == p) _ s in let w = and_parts (spot m z == q) _ t in
      both_ways (near m.ship rule.level (place m p) (place m q))
      ((shown.departs i l).separated e rule p q y.1 z.1 (place m p) (place m q) (container m y.1) (container m z.1) at_e
      (record { is_place = at_p; holds = subst (λ (k : ℕ). Holds (plan (suc i)) k y.1) (eqb-true _ _ u.0) ((shown.shows (suc i) l).to_plan y f); is_container = box_is m x known (suc i) (held (suc i)) (shown.holds (suc i) l) y f })
      (record { is_place = at_q; holds = subst (λ (k : ℕ). Holds (plan (suc i)) k z.1) (eqb-true _ _ w.0) ((shown.shows (suc i) l).to_plan z g); is_container = box_is m x known (suc i) (held (suc i)) (shown.holds (suc i) l) z g })
      (box_class (suc i) l y rule.a f u.1) (box_class (suc i) l z rule.b g w.1)) close) in
      omega (arith, ints, a, b, c, d)

-- the assignment of legal plans shows them
module _ (m : Voyage) (rules : IsProblem m) (plan : ℕ → Plan) (lift : ℕ → ℕ → Bool) (sailed : IsSailed m plan lift) where
  abbrev pub held : ℕ → List (ℕ × ℕ)
  held i = pairs_of (chosen m rules plan lift sailed i) 0 (plan i)

  holds : (i : ℕ) → i < (calls m) → IsHeld m (assignment m plan lift) i (held i)
  holds i l = held_plan m (assignment m plan lift) i (plan i) (sailed.stowed i l) (chosen m rules plan lift sailed i) (carried m rules plan lift sailed i l)

  filled : (i p c : ℕ) → Holds (plan i) p c → is_filled (slice_index_or (plan i) p None) ≡ true
  filled i p c h = ap is_filled (get_or_from_slice_get (plan i) p (Some c) None h)

  lift_from : (i p c : ℕ) → Holds (plan i) p c → kept m plan lift (suc i) p ≡ false → lift (suc i) p ≡ true
  lift_from i p c h k = ⊎_elim (λ (y : lift (suc i) p ≡ true). y) (λ (z : lift (suc i) p ≡ false). absurd (both_ways (kept m plan lift (suc i) p) k (and_from _ _ (filled i p c h) (not_from_false _ z)))) (cases_Bool (lift (suc i) p))

  gone_lifts : (i : ℕ) → suc i < (calls m) → (e : ℕ × ℕ) → Member e (held i) → gone m (suc i) e.0 ≡ lift (suc i) (spot m e)
  gone_lifts i l e h =
      let p = pair m (assignment m plan lift) (facts m rules) i (held i) (holds i (omega arith)) e h in
      let late = p.lifted in
      let r = run_of m rules plan lift sailed (var m e.0) p.is_one in
      let there = run_holds m rules plan lift sailed (var m e.0) r i p.put late (omega arith) in
      ⊎_elim
      (λ (g : (var m e.0).lifted ≡ suc i). eq-eqb _ (suc i) g ∙ sym (lift_from i (spot m e) r.box there
      (⊎_elim (λ (z : (var m e.0).lifted ≡ (calls m)). absurd (omega arith)) (λ (z : kept m plan lift (var m e.0).lifted (spot m e) ≡ false). subst (λ (k : ℕ). kept m plan lift k (spot m e) ≡ false) g z) r.ends)))
      (λ (g : (var m e.0).lifted ≡ suc i → ⊥). ne_eqb _ (suc i) g ∙ sym (not-true _ (and_parts (is_filled (slice_index_or (plan i) (spot m e) None)) _ (r.all_kept (suc i) (let a = p.put in omega arith) (omega arith))).1))
      (cases_eq (var m e.0).lifted (suc i))

  pub shown : IsShown m (assignment m plan lift) plan lift held
  shown = record {
    holds = holds;
    shows = λ i l. shows_plan m (assignment m plan lift) i (plan i) (sailed.stowed i l) (chosen m rules plan lift sailed i) (carried m rules plan lift sailed i l);
    stowed = sailed.stowed;
    departs = sailed.departs;
    closed = sailed.closed;
    gone_is = gone_lifts;
    put_is = λ i l e h now c there.
        let p = pair m (assignment m plan lift) (facts m rules) (suc i) (held (suc i)) (holds (suc i) l) e h in
        let r = run_of m rules plan lift sailed (var m e.0) p.is_one in
        lift_from i (spot m e) c there (subst (λ (k : ℕ). kept m plan lift k (spot m e) ≡ false) now r.not_kept);
  }
