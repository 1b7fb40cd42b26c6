-- A plan is made anew, place by place, without what a set takes out.
use Rattle.std.proofs.Common.{◌≡◌, ℕ, zero, suc, ◌+◌, ◌<◌, ◌≤◌, Bool, true, false, List, [], ◌∷◌, length, Option, Some, None, refl, sym, ◌∙◌, ap, subst, arith, ⊎_elim, length-set}
use Rattle.std.specs.Prelude.{slice_get, slice_set, replicate}
use Rattle.std.proofs.lemmas.Bool.{cases_eq, cases_lt}
use Rattle.std.proofs.lemmas.List.{length-replicate}
use Rattle.std.proofs.lemmas.Option.{none-some, same_Some, slice_get_within}
use Rattle.stow_data.specs.declared.geometry.Place.{Place}
use Rattle.stow_data.specs.declared.cargoes.Container.{Container}
use Rattle.stow_data.specs.Ship.{Ship, places}
use Rattle.stow_data.specs.Shipment.{Cargo}
use Rattle.stow_data.specs.Plans.{Plan}
use Rattle.stowage_rules.specs.Plan.{Holds, Fills, IsWellFormed}
use Rattle.stowage_rules.proofs.Items.{slice_get-set_other, slice_get-set_same}
use Rattle.greedy_loader.specs.Kept.{CanStand}
use Rattle.greedy_loader.specs.Quays.{HoldsUpTo, IsWithout, kept_of}

pub kept_was : (flag : Option Bool) (here : Option (Option ℕ)) (c : ℕ) → kept_of flag here ≡ Some (Some c) → here ≡ Some (Some c)
kept_was (Some true) (Some o) c h = absurd (none-some c (same_Some None (Some c) h))
kept_was (Some true) None c h = absurd (none-some (Some c) h)
kept_was (Some false) here c h = h
kept_was None here c h = h

-- what stands there so far stood there before, below
was_below : (before plan : Plan) (set : List Bool) (n q c : ℕ) → HoldsUpTo before set n plan → Holds plan q c → (q < n) × Holds before q c
was_below before plan set n q c up h = ⊎_elim
    (λ (l : q < n). (l, kept_was (slice_get set q) (slice_get before q) c (sym (up.below q l) ∙ h)))
    (λ (l : n ≤ q). absurd (none-some c (same_Some None (Some c) (sym (up.rest q l (let i = slice_get_within plan q (Some c) h in omega (arith, i, up.each_place))) ∙ h))))
    (cases_lt q n)

pub can_keep : (ship : Ship) (cargo : Cargo) (before plan : Plan) (set : List Bool) (p c : ℕ) → IsWellFormed ship cargo before → HoldsUpTo before set p plan → p < length (places ship) → Holds before p c → (place : Place) (x : Container) → slice_get (places ship) p ≡ Some place → slice_get cargo.containers c ≡ Some x → CanStand ship cargo plan p c place x
can_keep ship cargo before plan set p c formed up l h place x is known = record {
  is_place = is;
  free = up.rest p (omega arith) (omega (arith, formed.each_place));
  is_container = known;
  fresh = λ q k.
      let b = was_below before plan set p q c up k in
      let same : q ≡ p = formed.once q p c b.1 h in
      let low : q < p = b.0 in
      omega arith;
  length_fits = formed.fits p c place x (record { is_place = is; holds = h; is_container = known });
  empty = λ side takes taken.
      let b = was_below before plan set p taken.1.number taken.0 up taken.1.holds in
      let old : Fills ship before (record { stack = place.stack; tier = place.tier; aft = side }) taken.0 = record { number = taken.1.number; place = taken.1.place; is_place = taken.1.is_place; has_half = taken.1.has_half; holds = b.1 } in
      let new : Fills ship before (record { stack = place.stack; tier = place.tier; aft = side }) c = record { number = p; place = place; is_place = is; has_half = record { same_stack = refl; same_tier = refl; side = takes }; holds = h } in
      let same : taken.1.number ≡ p = formed.apart (record { stack = place.stack; tier = place.tier; aft = side }) taken.0 c old new in
      let low : taken.1.number < p = b.0 in
      omega arith;
}

-- one place more, whose entry is as it must be
more_held : (before plan after : Plan) (set : List Bool) (p : ℕ) → p < length before → HoldsUpTo before set p plan → length after ≡ length plan → slice_get after p ≡ kept_of (slice_get set p) (slice_get before p) → ((q : ℕ) → (q ≡ p → ⊥) → slice_get after q ≡ slice_get plan q) → HoldsUpTo before set (p + 1) after
more_held before plan after set p l up long here others = record {
  each_place = long ∙ up.each_place;
  below = λ q m. ⊎_elim
      (λ (e : q ≡ p). subst (λ (z : ℕ). slice_get after z ≡ kept_of (slice_get set z) (slice_get before z)) (sym e) here)
      (λ (ne : q ≡ p → ⊥). others q ne ∙ up.below q (omega (arith, ne)))
      (cases_eq q p);
  rest = λ q m i. others q (λ (e : q ≡ p). omega arith) ∙ up.rest q (omega arith) i;
}

pub put_held : (before plan : Plan) (set : List Bool) (p c : ℕ) → p < length before → HoldsUpTo before set p plan → Holds before p c → slice_get set p ≡ Some false → HoldsUpTo before set (p + 1) (slice_set plan p (Some c))
put_held before plan set p c l up h off = more_held before plan (slice_set plan p (Some c)) set p l up (length-set plan p (Some c))
    (slice_get-set_same plan p (Some c) None (up.rest p (omega arith) l) ∙ (sym h ∙ ap (λ (z : Option Bool). kept_of z (slice_get before p)) (sym off)))
    (λ q ne. slice_get-set_other plan p q (Some c) ne)

pub taken_held : (before plan : Plan) (set : List Bool) (p c : ℕ) → p < length before → HoldsUpTo before set p plan → Holds before p c → slice_get set p ≡ Some true → HoldsUpTo before set (p + 1) plan
taken_held before plan set p c l up h on = more_held before plan plan set p l up refl
    (up.rest p (omega arith) l ∙ sym (ap (λ (z : Option Bool). kept_of z (slice_get before p)) on ∙ ap (λ (z : Option (Option ℕ)). kept_of (Some true) z) h))
    (λ q ne. refl)

none_kept : (flag : Option Bool) → kept_of flag (Some None) ≡ Some None
none_kept (Some true) = refl
none_kept (Some false) = refl
none_kept None = refl

pub none_held : (before plan : Plan) (set : List Bool) (p : ℕ) → p < length before → HoldsUpTo before set p plan → slice_get before p ≡ Some None → HoldsUpTo before set (p + 1) plan
none_held before plan set p l up h = more_held before plan plan set p l up refl
    (up.rest p (omega arith) l ∙ sym (ap (λ (z : Option (Option ℕ)). kept_of (slice_get set p) z) h ∙ none_kept (slice_get set p)))
    (λ q ne. refl)

same_at : {X : Type 0} (n q : ℕ) (x : X) → q < n → slice_get (replicate n x) q ≡ Some x
same_at zero q x l = absurd (omega arith)
same_at (suc n) zero x l = refl
same_at (suc n) (suc q) x l = same_at n q x (omega arith)

pub starts_held : (before plan : Plan) (set : List Bool) (n : ℕ) → length before ≡ n → plan ≡ replicate n None → HoldsUpTo before set 0 plan
starts_held before plan set n long is = record {
  each_place = ap length is ∙ (length-replicate n None ∙ sym long);
  below = λ q l. absurd (omega arith);
  rest = λ q l m. subst (λ (z : Plan). slice_get z q ≡ Some None) (sym is) (same_at n q None (omega arith));
}

past_end : {X : Type 0} (xs : List X) (q : ℕ) → length xs ≤ q → slice_get xs q ≡ None
past_end [] q l = refl
past_end (x ∷ xs) zero l = absurd (omega arith)
past_end (x ∷ xs) (suc q) l = past_end xs q (omega arith)

pub all_held : (before plan : Plan) (set : List Bool) (n : ℕ) → length before ≤ n → length set ≡ length before → HoldsUpTo before set n plan → IsWithout before set plan
all_held before plan set n l same up = record {
  each_place = up.each_place;
  holds = λ q. ⊎_elim
      (λ (m : q < n). up.below q m)
      (λ (m : n ≤ q). past_end plan q (omega (arith, up.each_place)) ∙ sym (ap (λ (z : Option (Option ℕ)). kept_of (slice_get set q) z) (past_end before q (omega arith)) ∙ ap (λ (z : Option Bool). kept_of z None) (past_end set q (omega arith))))
      (cases_lt q n);
}
