-- The best of all climbing pairs, call by call.
use Rattle.std.proofs.Common.{◌≡◌, ◌≢◌, ℕ, zero, suc, ◌+◌, ◌^◌, ◌<◌, ◌≤◌, ◌⊎◌, inl, inr, List, [], ◌∷◌, length, replicate, set, ℤ, pos, ◌+ℤ◌, ◌≤ℤ◌, arith, add-one, sym, ◌∙◌, ap, subst}
use Rattle.std.specs.Int.{int_max}
use borrow.Author.Differences.{ints}
use Rattle.std.proofs.lemmas.Bool.Decides.{eqb_tells}
use Rattle.std.proofs.lemmas.List.{get_or-set_same, get_or-set_other}
use Rattle.crossing_pricing.specs.declared.best_pairs.Best.{Best}
use Rattle.crossing_pricing.specs.Climbs.{over_pairs, Climb, IsBest, AreBest, IsSmall, AreSmall, best_at, nothing, room}

at_or_above : (a b : ℕ) → a ≤ b → (b ≡ a) ⊎ (suc a ≤ b)
at_or_above a b h = grind arith

lift_max_left : (x a b : ℤ) → x ≤ℤ a → x ≤ℤ int_max a b
lift_max_left x a b h = grind (arith, ints)

lift_max_right : (x a b : ℤ) → x ≤ℤ b → x ≤ℤ int_max a b
lift_max_right x a b h = grind (arith, ints)

plus_le : (x y z : ℤ) → y ≤ℤ z → (x +ℤ y) ≤ℤ (x +ℤ z)
plus_le x y z h = omega (arith, ints)

module _ (w : ℕ → ℕ → ℤ) (last floor load dest : ℕ) (right down diagonal : Best)
    (r : IsBest w last floor load (suc dest) right) (o : IsBest w last floor (suc load) dest down) (g : IsBest w last floor (suc load) (suc dest) diagonal) where
  abbrev one : ℤ
  one = int_max (int_max right.one down.one) (w load dest +ℤ int_max (pos 0) diagonal.one)

  abbrev two : ℤ
  two = int_max (int_max right.two down.two) (w load dest +ℤ diagonal.one)

  -- the pair of these calls, with those behind it
  one_here : (q : ℕ × ℕ) (qs : List (ℕ × ℕ)) → q.0 ≡ load → q.1 ≡ dest → Climb last floor (suc q.0) (suc q.1) qs → over_pairs w (q ∷ qs) ≤ℤ (w load dest +ℤ int_max (pos 0) diagonal.one)
  one_here q [] e f c = let same : w q.0 q.1 ≡ w load dest = ap (λ i. w i q.1) e ∙ ap (λ d. w load d) f in grind (arith, ints, same)
  one_here q (p ∷ ps) e f c =
      let same : w q.0 q.1 ≡ w load dest = ap (λ i. w i q.1) e ∙ ap (λ d. w load d) f in
      let c' : Climb last floor (suc load) (suc dest) (p ∷ ps) = subst (λ i. Climb last floor (suc i) (suc dest) (p ∷ ps)) e (subst (λ d. Climb last floor (suc q.0) (suc d) (p ∷ ps)) f c) in
      let behind : over_pairs w (p ∷ ps) ≤ℤ int_max (pos 0) diagonal.one = lift_max_right _ (pos 0) diagonal.one (g.one (p ∷ ps) c' (omega arith)) in
      subst (λ z. (z +ℤ over_pairs w (p ∷ ps)) ≤ℤ (w load dest +ℤ int_max (pos 0) diagonal.one)) (sym same) (plus_le (w load dest) (over_pairs w (p ∷ ps)) (int_max (pos 0) diagonal.one) behind)

  two_here : (q : ℕ × ℕ) (qs : List (ℕ × ℕ)) → q.0 ≡ load → q.1 ≡ dest → Climb last floor (suc q.0) (suc q.1) qs → 2 ≤ length (q ∷ qs) → over_pairs w (q ∷ qs) ≤ℤ (w load dest +ℤ diagonal.one)
  two_here q [] e f c l = absurd (omega arith)
  two_here q (p ∷ ps) e f c l =
      let same : w q.0 q.1 ≡ w load dest = ap (λ i. w i q.1) e ∙ ap (λ d. w load d) f in
      let c' : Climb last floor (suc load) (suc dest) (p ∷ ps) = subst (λ i. Climb last floor (suc i) (suc dest) (p ∷ ps)) e (subst (λ d. Climb last floor (suc q.0) (suc d) (p ∷ ps)) f c) in
      subst (λ z. (z +ℤ over_pairs w (p ∷ ps)) ≤ℤ (w load dest +ℤ diagonal.one)) (sym same) (plus_le (w load dest) (over_pairs w (p ∷ ps)) diagonal.one (g.one (p ∷ ps) c' (omega arith)))

  one_by : (q : ℕ × ℕ) (qs : List (ℕ × ℕ)) → Climb last floor load dest (q ∷ qs) → (q.0 ≡ load) ⊎ (suc load ≤ q.0) → (q.1 ≡ dest) ⊎ (suc dest ≤ q.1) → over_pairs w (q ∷ qs) ≤ℤ one
  one_by q qs c (inr h) k = lift_max_left _ _ _ (lift_max_right _ right.one down.one (o.one (q ∷ qs) (h, c.1, c.2, c.3, c.4) (omega arith)))
  one_by q qs c (inl e) (inr k) = lift_max_left _ _ _ (lift_max_left _ right.one down.one (r.one (q ∷ qs) (c.0, c.1, k, c.3, c.4) (omega arith)))
  one_by q qs c (inl e) (inl f) = lift_max_right _ (int_max right.one down.one) _ (one_here q qs e f c.4)

  two_by : (q : ℕ × ℕ) (qs : List (ℕ × ℕ)) → Climb last floor load dest (q ∷ qs) → 2 ≤ length (q ∷ qs) → (q.0 ≡ load) ⊎ (suc load ≤ q.0) → (q.1 ≡ dest) ⊎ (suc dest ≤ q.1) → over_pairs w (q ∷ qs) ≤ℤ two
  two_by q qs c l (inr h) k = lift_max_left _ _ _ (lift_max_right _ right.two down.two (o.two (q ∷ qs) (h, c.1, c.2, c.3, c.4) l))
  two_by q qs c l (inl e) (inr k) = lift_max_left _ _ _ (lift_max_left _ right.two down.two (r.two (q ∷ qs) (c.0, c.1, k, c.3, c.4) l))
  two_by q qs c l (inl e) (inl f) = lift_max_right _ (int_max right.two down.two) _ (two_here q qs e f c.4 l)

  one_all : (qs : List (ℕ × ℕ)) → Climb last floor load dest qs → 1 ≤ length qs → over_pairs w qs ≤ℤ one
  one_all [] c l = absurd (omega arith)
  one_all (q ∷ qs) c l = one_by q qs c (at_or_above load q.0 c.0) (at_or_above dest q.1 c.2)

  two_all : (qs : List (ℕ × ℕ)) → Climb last floor load dest qs → 2 ≤ length qs → over_pairs w qs ≤ℤ two
  two_all [] c l = absurd (omega arith)
  two_all (q ∷ qs) c l = two_by q qs c l (at_or_above load q.0 c.0) (at_or_above dest q.1 c.2)

  pub best_here : (new : Best) → new.one ≡ one → new.two ≡ two → IsBest w last floor load dest new
  best_here new e f = record {
    one = λ qs c l. subst (λ z. over_pairs w qs ≤ℤ z) (sym e) (one_all qs c l);
    two = λ qs c l. subst (λ z. over_pairs w qs ≤ℤ z) (sym f) (two_all qs c l);
  }

-- no pairs begin past the last call, or at the floor
pub none_past : (w : ℕ → ℕ → ℤ) (last floor load dest : ℕ) (any : Best) → last < dest → IsBest w last floor load dest any
none_past w last floor load dest any lt = record { one = λ qs c l. no qs c l; two = λ qs c l. no' qs c l }
  where
    no : (qs : List (ℕ × ℕ)) → Climb last floor load dest qs → 1 ≤ length qs → over_pairs w qs ≤ℤ any.one
    no [] c l = absurd (omega arith)
    no (q ∷ qs) c l = absurd (omega (arith, c.2, c.3))

    no' : (qs : List (ℕ × ℕ)) → Climb last floor load dest qs → 2 ≤ length qs → over_pairs w qs ≤ℤ any.two
    no' [] c l = absurd (omega arith)
    no' (q ∷ qs) c l = absurd (omega (arith, c.2, c.3))

pub none_from : (w : ℕ → ℕ → ℤ) (last floor load dest : ℕ) (any : Best) → floor ≤ load → IsBest w last floor load dest any
none_from w last floor load dest any le = record { one = λ qs c l. no qs c l; two = λ qs c l. no' qs c l }
  where
    no : (qs : List (ℕ × ℕ)) → Climb last floor load dest qs → 1 ≤ length qs → over_pairs w qs ≤ℤ any.one
    no [] c l = absurd (omega arith)
    no (q ∷ qs) c l = absurd (omega (arith, c.0, c.1))

    no' : (qs : List (ℕ × ℕ)) → Climb last floor load dest qs → 2 ≤ length qs → over_pairs w qs ≤ℤ any.two
    no' [] c l = absurd (omega arith)
    no' (q ∷ qs) c l = absurd (omega (arith, c.0, c.1))

-- ## Rows of bests

same_or_other : (a b : ℕ) → (a ≡ b) ⊎ (a ≢ b)
same_or_other a b = elim (eqb_tells a b) [ inl h ↦ inl h.1 | inr h ↦ inr h.1 ]

module _ (w : ℕ → ℕ → ℤ) (last floor load count dest : ℕ) (row below : List Best) (new : Best) where
  abbrev Here : Type 0
  Here = (d : ℕ) → last + 1 ≤ d + count → d ≤ 13 → IsBest w last floor load d (best_at row d)

  abbrev Further : ℕ → Type 0
  Further d = IsBest w last floor load d (best_at (set row dest new) d)

  new_best : dest + count ≡ last → last ≤ 12 → floor ≤ dest → Here → AreBest w last floor (load + 1) floor below
      → new.one ≡ int_max (int_max (best_at row (dest + 1)).one (best_at below dest).one) (w load dest +ℤ int_max (pos 0) (best_at below (dest + 1)).one)
      → new.two ≡ int_max (int_max (best_at row (dest + 1)).two (best_at below dest).two) (w load dest +ℤ (best_at below (dest + 1)).one)
      → IsBest w last floor load dest new
  new_best e low from here under first second =
      best_here w last floor load dest (best_at row (dest + 1)) (best_at below dest) (best_at below (dest + 1))
      (subst (λ d. IsBest w last floor load d (best_at row (dest + 1))) (add-one dest) (here (dest + 1) (omega arith) (omega arith)))
      (subst (λ i. IsBest w last floor i dest (best_at below dest)) (add-one load) (under dest from (omega arith)))
      (subst (λ d. IsBest w last floor (suc load) d (best_at below (dest + 1))) (add-one dest) (subst (λ i. IsBest w last floor i (dest + 1) (best_at below (dest + 1))) (add-one load) (under (dest + 1) (omega arith) (omega arith))))
      new first second

  pub row_more : length row ≡ 14 → dest + count ≡ last → last ≤ 12 → floor ≤ dest → Here → AreBest w last floor (load + 1) floor below
      → new.one ≡ int_max (int_max (best_at row (dest + 1)).one (best_at below dest).one) (w load dest +ℤ int_max (pos 0) (best_at below (dest + 1)).one)
      → new.two ≡ int_max (int_max (best_at row (dest + 1)).two (best_at below dest).two) (w load dest +ℤ (best_at below (dest + 1)).one)
      → (d : ℕ) → last + 1 ≤ d + (count + 1) → d ≤ 13 → Further d
  row_more len e low from here under first second d h le = by (same_or_other d dest)
    where
      by : (d ≡ dest) ⊎ (d ≢ dest) → Further d
      by (inl s) = subst (λ k. Further k) (sym s) (subst (λ b. IsBest w last floor load dest b) (sym (get_or-set_same row dest new nothing (omega arith))) (new_best e low from here under first second))
      by (inr o) = subst (λ b. IsBest w last floor load d b) (sym (get_or-set_other row dest d new nothing o)) (here d (omega arith) le)

  pub small_more : (size : ℕ) → length row ≡ 14 → AreSmall size row → IsSmall size new → dest ≤ 13 → AreSmall size (set row dest new)
  small_more size len small fresh le d d_le = by (same_or_other d dest)
    where
      by : (d ≡ dest) ⊎ (d ≢ dest) → IsSmall size (best_at (set row dest new) d)
      by (inl s) = subst (λ k. IsSmall size (best_at (set row dest new) k)) (sym s) (subst (λ b. IsSmall size b) (sym (get_or-set_same row dest new nothing (omega arith))) fresh)
      by (inr o) = subst (λ b. IsSmall size b) (sym (get_or-set_other row dest d new nothing o)) (small d d_le)

pub room_step : (load : ℕ) → load ≤ 12 → room (load + 1) + 2 ^ 38 ≡ room load
room_step load le = omega arith

-- all the same
pub small_list : (size : ℕ) (x : Best) → IsSmall size x → (n : ℕ) → AreSmall size (replicate n x)
small_list size x small zero d le = record { one = omega arith; two = omega arith }
small_list size x small (suc n) zero le = small
small_list size x small (suc n) (suc d) le = small_list size x small n d (omega arith)
