-- Block, hatch, start and twenty are met.
use Rattle.std.proofs.Common.{◌≡◌, ℕ, suc, ◌<◌, ◌+◌, Bool, true, false, List, [], ◌∷◌, pos, ◌+ℤ◌, ◌-ℤ◌, ◌≤ℤ◌, arith, refl, sym, ◌∙◌, ap, ⊎_elim, subst, length, Option, Some, None}
use Rattle.std.specs.Prelude.{◌==◌, ◌&&◌, not, nat_le, nat_lt, slice_get, nat_eq, Contains}
use Rattle.std.specs.List.{list_any}
use Rattle.std.proofs.lemmas.Bool.{both_ways, eqb-true, and_parts, not-true, or_cases}
use Rattle.std.proofs.lemmas.Bool.Decides.{nat_tests}
use Rattle.std.proofs.lemmas.Map.Views.{Contains-from_any}
use Rattle.std.proofs.lemmas.Option.{none-some, same_Some}
use borrow.Author.Differences.{ints}
use Rattle.proof_trees.specs.Program.{sum_to, where_set}
use Rattle.stow_data.specs.declared.geometry.Cover.{Cover}
use Rattle.stow_data.specs.declared.geometry.Half.{Half}
use Rattle.stow_data.specs.Ship.{places}
use Rattle.stow_data.specs.Plans.{Plan}
use Rattle.stowage_rules.specs.Plan.{Holds}
use Rattle.plan_lifts.specs.Least.{IsOver, IsOnCoverOf}
use Rattle.zero_one_rows.specs.declared.program.Row.TheVariants.{Block, Hatch}
use Rattle.zero_one_rows.specs.Variables.{Voyage, variables, var, place, calls}
use Rattle.zero_one_rows.specs.Rows.{active, out, stay, into, above, half, cover_joins, coef, rhs, bit, less}
use Rattle.model_bridge.proofs.Words.{at_half}
use Rattle.model_bridge.proofs.Sums.{same_sum, minus_sum}
use Rattle.model_bridge.proofs.Match.{total}
use Rattle.stow_data.proofs.Members.{Member}
use Rattle.model_bridge.proofs.Calls.{Facts, gone}
use Rattle.model_bridge.proofs.Halves.{covers_from}
use Rattle.model_bridge.proofs.Departures.{spot, on_half, spot_is}
use Rattle.model_bridge.proofs.Meets.{IsShown, passing, one_in_all, total_less, one_on_and}

-- terms over what was there before a call
out_term : (put lifted i : ℕ) (t b c : Bool) → put < lifted → where_set t (less (b && (nat_lt put (suc i) && (lifted == suc i))) -ℤ bit (c && (nat_lt put (suc i) && nat_lt (suc i) lifted)))
    ≡ where_set (t && (nat_le put i && nat_lt i lifted)) (less (b && (lifted == suc i)) -ℤ bit (c && not (lifted == suc i)))
out_term put lifted i true true true l = grind (arith, nat_tests, ints)
out_term put lifted i true true false l = grind (arith, nat_tests, ints)
out_term put lifted i true false true l = grind (arith, nat_tests, ints)
out_term put lifted i true false false l = grind (arith, nat_tests, ints)
out_term put lifted i false b c l = refl

-- terms over what is there after a call, and before it
into_term : (put lifted i : ℕ) (t b c : Bool) → put < lifted → where_set t (less (b && (put == suc i)) -ℤ bit (c && (nat_lt put (suc i) && nat_lt (suc i) lifted)))
    ≡ where_set (t && (nat_le put (suc i) && nat_lt (suc i) lifted)) (less (b && (put == suc i))) -ℤ where_set (t && (nat_le put i && nat_lt i lifted)) (bit (c && not (lifted == suc i)))
into_term put lifted i true true true l = grind (arith, nat_tests, ints)
into_term put lifted i true true false l = grind (arith, nat_tests, ints)
into_term put lifted i true false true l = grind (arith, nat_tests, ints)
into_term put lifted i true false false l = grind (arith, nat_tests, ints)
into_term put lifted i false b c l = refl

total_two : {X : Type 0} (t u : X → Bool) (xs : List X) → total (λ x. less (t x) -ℤ bit (u x)) xs ≡ pos 0 -ℤ (passing t xs +ℤ passing u xs)
total_two t u [] = refl
total_two t u (x ∷ xs) = omega (arith, ints, total_two t u xs)

-- which cover joins two stacks
joined : (cs : List Cover) (s t : ℕ) → cover_joins cs s t ≡ true → (k : ℕ) × (c : Cover) × (slice_get cs k ≡ Some c) × Contains c.under s × Contains c.on t
joined [] s t h = absurd (both_ways false refl h)
joined (c ∷ cs) s t h = ⊎_elim
    (λ (a : (list_any (nat_eq s) c.under && list_any (nat_eq t) c.on) ≡ true). let b = and_parts (list_any (nat_eq s) c.under) _ a in
    (0, c, refl, Contains-from_any {eq = nat_eq} (λ x y. eqb-true x y) s c.under b.0, Contains-from_any {eq = nat_eq} (λ x y. eqb-true x y) t c.on b.1))
    (λ (a : cover_joins cs s t ≡ true). let r = joined cs s t a in (suc r.0, r.1, r.2, r.3, r.4))
    (or_cases _ (cover_joins cs s t) h)

module _ (m : Voyage) (x : ℕ → Bool) (facts : Facts m) (plan : ℕ → Plan) (lift : ℕ → ℕ → Bool) (held : ℕ → List (ℕ × ℕ)) (shown : IsShown m x plan lift held) (i : ℕ) (l : suc i < (calls m)) where
  abbrev n : ℕ
  n = length (variables m)

  before : i < (calls m)
  before = omega arith

  -- over what is lifted nothing stays
  no_stay_over : (h : Half) (e d : ℕ × ℕ) → Member e (held i) → Member d (held i) → on_half m e h ≡ true → on_half m d (above h) ≡ true → gone m (suc i) e.0 ≡ true → gone m (suc i) d.0 ≡ false → ⊥
  no_stay_over h e d a b s t g k =
      let lower = covers_from (place m (spot m e)) h s in
      let upper = covers_from (place m (spot m d)) (above h) t in
      let over : IsOver m.ship (spot m d) (spot m e) = record {
        upper = place m (spot m d);
        is_upper = spot_is m x facts i (held i) (shown.holds i before) d b;
        lower = place m (spot m e);
        is_lower = spot_is m x facts i (held i) (shown.holds i before) e a;
        side = h.aft;
        upper_has = upper.side;
        lower_has = lower.side;
        same_stack = sym upper.same_stack ∙ lower.same_stack;
        next_tier = sym upper.same_tier ∙ ap (λ (z : ℕ). z + 1) lower.same_tier;
      } in
      let lifted = (shown.closed i l).over (spot m d) (spot m e) d.1 ((shown.shows i before).to_plan d b) over (sym (shown.gone_is i l e a) ∙ g) in
      both_ways (gone m (suc i) d.0) k (shown.gone_is i l d b ∙ lifted)

  pub met_block : (h : ℕ) → rhs m (Block (suc i) h) ≤ℤ sum_to n (λ v. where_set (x v) (coef m (Block (suc i) h) (var m v)))
  met_block h =
      let a = same_sum n (λ v. where_set (x v) (less (out m (suc i) (half m h) (var m v)) -ℤ bit (stay m (suc i) (above (half m h)) (var m v)))) (λ v. where_set (x v && active i (var m v)) (less (at_half m (half m h) (var m v) && gone m (suc i) v) -ℤ bit (at_half m (above (half m h)) (var m v) && not (gone m (suc i) v)))) (λ v k. out_term (var m v).put (var m v).lifted i (x v) _ _ (facts.var_order v k)) in
      let b = (shown.holds i before).vars (λ v. less (at_half m (half m h) (var m v) && gone m (suc i) v) -ℤ bit (at_half m (above (half m h)) (var m v) && not (gone m (suc i) v))) in
      let c = total_two (λ (e : ℕ × ℕ). on_half m e (half m h) && gone m (suc i) e.0) (λ (e : ℕ × ℕ). on_half m e (above (half m h)) && not (gone m (suc i) e.0)) (held i) in
      let d = one_in_all (λ (e : ℕ × ℕ). on_half m e (half m h) && gone m (suc i) e.0) (λ (e : ℕ × ℕ). on_half m e (above (half m h)) && not (gone m (suc i) e.0)) (held i) (held i)
      (one_on_and m x facts plan lift held shown i before (half m h) (λ e. gone m (suc i) e.0)) (one_on_and m x facts plan lift held shown i before (above (half m h)) (λ e. not (gone m (suc i) e.0)))
      (λ e d p q s t. let u = and_parts (on_half m e (half m h)) _ s in let w = and_parts (on_half m d (above (half m h))) _ t in no_stay_over (half m h) e d p q u.0 w.0 u.1 (not-true _ w.1)) in
      omega (arith, ints, a, b, c, d)

  -- the cover between two pairs
  on_cover_of : (h b : Half) (e d : ℕ × ℕ) (at_e : slice_get (places m.ship) (spot m e) ≡ Some (place m (spot m e))) → Member d (held i) → on_half m e h ≡ true → on_half m d b ≡ true → cover_joins m.ship.covers h.stack b.stack ≡ true → IsOnCoverOf m.ship (spot m d) (spot m e)
  on_cover_of h b e d at_e q s t joins =
      let r = joined m.ship.covers h.stack b.stack joins in
      let lower = covers_from (place m (spot m e)) h s in
      let upper = covers_from (place m (spot m d)) b t in
      record {
        upper = place m (spot m d);
        is_upper = spot_is m x facts i (held i) (shown.holds i before) d q;
        lower = place m (spot m e);
        is_lower = at_e;
        cover = r.0;
        on = record { cover = r.1; is_cover = r.2; named = subst (λ (z : ℕ). Contains r.1.on z) upper.same_stack r.4 };
        under = record { cover = r.1; is_cover = r.2; named = subst (λ (z : ℕ). Contains r.1.under z) lower.same_stack r.3 };
      }

  pub met_hatch_out : (h b : ℕ) → cover_joins m.ship.covers (half m h).stack (half m b).stack ≡ true → rhs m (Hatch 0 (suc i) h b) ≤ℤ sum_to n (λ v. where_set (x v) (coef m (Hatch 0 (suc i) h b) (var m v)))
  met_hatch_out h b joins =
      let a = same_sum n (λ v. where_set (x v) (less (out m (suc i) (half m h) (var m v)) -ℤ bit (stay m (suc i) (half m b) (var m v)))) (λ v. where_set (x v && active i (var m v)) (less (at_half m (half m h) (var m v) && gone m (suc i) v) -ℤ bit (at_half m (half m b) (var m v) && not (gone m (suc i) v)))) (λ v k. out_term (var m v).put (var m v).lifted i (x v) _ _ (facts.var_order v k)) in
      let e = (shown.holds i before).vars (λ v. less (at_half m (half m h) (var m v) && gone m (suc i) v) -ℤ bit (at_half m (half m b) (var m v) && not (gone m (suc i) v))) in
      let c = total_two (λ (e : ℕ × ℕ). on_half m e (half m h) && gone m (suc i) e.0) (λ (e : ℕ × ℕ). on_half m e (half m b) && not (gone m (suc i) e.0)) (held i) in
      let d = one_in_all (λ (e : ℕ × ℕ). on_half m e (half m h) && gone m (suc i) e.0) (λ (e : ℕ × ℕ). on_half m e (half m b) && not (gone m (suc i) e.0)) (held i) (held i)
      (one_on_and m x facts plan lift held shown i before (half m h) (λ e. gone m (suc i) e.0)) (one_on_and m x facts plan lift held shown i before (half m b) (λ e. not (gone m (suc i) e.0)))
      (λ e d p q s t. let u = and_parts (on_half m e (half m h)) _ s in let w = and_parts (on_half m d (half m b)) _ t in
      let on = on_cover_of (half m h) (half m b) e d (spot_is m x facts i (held i) (shown.holds i before) e p) q u.0 w.0 joins in
      both_ways (gone m (suc i) d.0) (not-true _ w.1) (shown.gone_is i l d q ∙ (shown.closed i l).on_cover (spot m d) (spot m e) d.1 ((shown.shows i before).to_plan d q) on (sym (shown.gone_is i l e p) ∙ u.1))) in
      omega (arith, ints, a, e, c, d)

  -- what is put under a cover, where it wasn't or was lifted, opens it
  put_opens : (h b : Half) (e d : ℕ × ℕ) → Member e (held (suc i)) → Member d (held i) → on_half m e h ≡ true → on_half m d b ≡ true → cover_joins m.ship.covers h.stack b.stack ≡ true → (var m e.0).put ≡ suc i → gone m (suc i) d.0 ≡ true
  put_opens h b e d p q s t joins now =
      let on = on_cover_of h b e d (spot_is m x facts (suc i) (held (suc i)) (shown.holds (suc i) l) e p) q s t joins in
      let stands = (shown.shows i before).to_plan d q in
      let after = (shown.shows (suc i) l).to_plan e p in
      shown.gone_is i l d q ∙ go (slice_get (plan i) (spot m e)) refl on stands after
    where
      go : (o : Option (Option ℕ)) → slice_get (plan i) (spot m e) ≡ o → IsOnCoverOf m.ship (spot m d) (spot m e) → Holds (plan i) (spot m d) d.1 → Holds (plan (suc i)) (spot m e) e.1 → lift (suc i) (spot m d) ≡ true
      go (Some (Some c)) eq on stands after = (shown.closed i l).on_cover (spot m d) (spot m e) d.1 stands on (shown.put_is i l e p now c eq)
      go (Some None) eq on stands after = (shown.closed i l).on_opened (spot m d) (spot m e) d.1 stands on (λ same. none-some e.1 (same_Some None (Some e.1) (sym eq ∙ (same ∙ after))))
      go None eq on stands after = (shown.closed i l).on_opened (spot m d) (spot m e) d.1 stands on (λ same. none-some (Some e.1) (sym eq ∙ (same ∙ after)))

  pub met_hatch_into : (h b : ℕ) → cover_joins m.ship.covers (half m h).stack (half m b).stack ≡ true → rhs m (Hatch 1 (suc i) h b) ≤ℤ sum_to n (λ v. where_set (x v) (coef m (Hatch 1 (suc i) h b) (var m v)))
  met_hatch_into h b joins =
      let a = same_sum n (λ v. where_set (x v) (less (into m (suc i) (half m h) (var m v)) -ℤ bit (stay m (suc i) (half m b) (var m v)))) (λ v. where_set (x v && active (suc i) (var m v)) (less (at_half m (half m h) (var m v) && ((var m v).put == suc i))) -ℤ where_set (x v && active i (var m v)) (bit (at_half m (half m b) (var m v) && not (gone m (suc i) v)))) (λ v k. into_term (var m v).put (var m v).lifted i (x v) _ _ (facts.var_order v k)) in
      let f = minus_sum n (λ v. where_set (x v && active (suc i) (var m v)) (less (at_half m (half m h) (var m v) && ((var m v).put == suc i)))) (λ v. where_set (x v && active i (var m v)) (bit (at_half m (half m b) (var m v) && not (gone m (suc i) v)))) in
      let e = (shown.holds (suc i) l).vars (λ v. less (at_half m (half m h) (var m v) && ((var m v).put == suc i))) in
      let g = (shown.holds i before).vars (λ v. bit (at_half m (half m b) (var m v) && not (gone m (suc i) v))) in
      let c = total_less (λ (e : ℕ × ℕ). on_half m e (half m h) && ((var m e.0).put == suc i)) (held (suc i)) in
      let d = one_in_all (λ (e : ℕ × ℕ). on_half m e (half m h) && ((var m e.0).put == suc i)) (λ (e : ℕ × ℕ). on_half m e (half m b) && not (gone m (suc i) e.0)) (held (suc i)) (held i)
      (one_on_and m x facts plan lift held shown (suc i) l (half m h) (λ e. (var m e.0).put == suc i)) (one_on_and m x facts plan lift held shown i before (half m b) (λ e. not (gone m (suc i) e.0)))
      (λ e d p q s t. let u = and_parts (on_half m e (half m h)) _ s in let w = and_parts (on_half m d (half m b)) _ t in
      both_ways (gone m (suc i) d.0) (not-true _ w.1) (put_opens (half m h) (half m b) e d p q u.0 w.0 joins (eqb-true _ _ u.1))) in
      omega (arith, ints, a, f, e, g, c, d)
