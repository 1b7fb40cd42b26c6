-- Items of a list by number.
use Rattle.std.specs.Prelude.{◌≡◌, ℕ, ◌<◌, List, [], ◌∷◌, Some, length, slice_get, slice_set, suc, zero}
use Rattle.std.proofs.Common.{refl, sym, ap, arith}
use Rattle.std.proofs.lemmas.Option.{none-some, same_Some}

-- there is one below the length
pub slice_get_in : {X : Type 0} (xs : List X) (k : ℕ) → k < length xs → (x : X) × (slice_get xs k ≡ Some x)
slice_get_in [] k h = absurd (omega arith)
slice_get_in (x ∷ xs) zero h = (x, refl)
slice_get_in (x ∷ xs) (suc k) h = slice_get_in xs k (omega arith)

-- reading after a write elsewhere, and at the place
pub slice_get-set_other : {X : Type 0} (xs : List X) (i j : ℕ) (x : X) → (j ≡ i → ⊥) → slice_get (slice_set xs i x) j ≡ slice_get xs j
slice_get-set_other [] i j x ne = refl
slice_get-set_other (y ∷ ys) zero zero x ne = absurd (ne refl)
slice_get-set_other (y ∷ ys) zero (suc j) x ne = refl
slice_get-set_other (y ∷ ys) (suc i) zero x ne = refl
slice_get-set_other (y ∷ ys) (suc i) (suc j) x ne = slice_get-set_other ys i j x (λ e. ne (ap suc e))

pub slice_get-set_same : {X : Type 0} (xs : List X) (i : ℕ) (x y : X) → slice_get xs i ≡ Some y → slice_get (slice_set xs i x) i ≡ Some x
slice_get-set_same [] i x y h = absurd (none-some y h)
slice_get-set_same (z ∷ zs) zero x y h = refl
slice_get-set_same (z ∷ zs) (suc i) x y h = slice_get-set_same zs i x y h

-- lists that read the same are the same
pub same_reads : {X : Type 0} (xs ys : List X) → ((p : ℕ) → slice_get xs p ≡ slice_get ys p) → xs ≡ ys
same_reads [] [] h = refl
same_reads [] (y ∷ ys) h = absurd (none-some y (h 0))
same_reads (x ∷ xs) [] h = absurd (none-some x (sym (h 0)))
same_reads (x ∷ xs) (y ∷ ys) h = let a : x ≡ y = same_Some x y (h 0) in let b : xs ≡ ys = same_reads xs ys (λ p. h (suc p)) in cc
