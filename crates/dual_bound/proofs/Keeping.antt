-- One more row is kept.
use Rattle.std.proofs.Common.{◌≡◌, ℕ, zero, suc, ◌+◌, ◌<◌, ◌⊎◌, inl, inr, List, [], ◌∷◌, ◌++◌, length, length-append, get_or, Some, arith, refl, sym, ◌∙◌, ap, subst}
use Rattle.std.specs.Prelude.{slice_get}
use Rattle.std.proofs.lemmas.Option.{slice_get-get_or}
use Rattle.zero_one_rows.specs.declared.program.Row.{Row}
use Rattle.zero_one_rows.specs.declared.program.Row.TheVariants.{Cell}
use Rattle.zero_one_rows.specs.Variables.{Voyage}
use Rattle.zero_one_rows.specs.Counted.{all_rows, base_rows}
use Rattle.row_matrix.specs.Terms.{count, row_at}
use Rattle.dual_bound.proofs.BaseFlat.{base_place}
use Rattle.dual_bound.proofs.Flat.{same_place}

at_front : {X : Type 0} (xs : List X) (y d : X) (k : ℕ) → k < length xs → get_or (xs ++ y ∷ []) k d ≡ get_or xs k d
at_front [] y d k lt = absurd (omega arith)
at_front (x ∷ xs) y d zero lt = refl
at_front (x ∷ xs) y d (suc k) lt = at_front xs y d k (omega arith)

at_end : {X : Type 0} (xs : List X) (y d : X) (k : ℕ) → k ≡ length xs → get_or (xs ++ y ∷ []) k d ≡ y
at_end [] y d zero e = refl
at_end [] y d (suc k) e = absurd (omega arith)
at_end (x ∷ xs) y d zero e = absurd (omega arith)
at_end (x ∷ xs) y d (suc k) e = at_end xs y d k (omega arith)

front_or_end : (k n : ℕ) → k < n + 1 → (k < n) ⊎ (k ≡ n)
front_or_end k n lt = grind arith

-- ## One more row

module _ (m : Voyage) {X : Type 0} (first : ℕ) (P : Row → X → Type 0) (d : X) where
  pub one_more : (xs : List X) (x : X) (row : Row) → ((k : ℕ) (r : Row) → k < length xs → slice_get (all_rows m) (first + k) ≡ Some r → P r (get_or xs k d)) → slice_get (all_rows m) (first + length xs) ≡ Some row → P row x
      → (k : ℕ) (r : Row) → k < length (xs ++ x ∷ []) → slice_get (all_rows m) (first + k) ≡ Some r → P r (get_or (xs ++ x ∷ []) k d)
  one_more xs x row kept here is k r lt at = by (front_or_end k (length xs) (omega (arith, length-append xs (x ∷ []), lt)))
    where
      by : (k < length xs) ⊎ (k ≡ length xs) → P r (get_or (xs ++ x ∷ []) k d)
      by (inl h) = subst (λ (y : X). P r y) (sym (at_front xs x d k h)) (kept k r h at)
      by (inr h) =
          let same : row ≡ r = same_place (all_rows m) (first + length xs) row r here (ap (λ (i : ℕ). slice_get (all_rows m) (first + i)) (sym h) ∙ at) in
          subst (λ (y : X). P r y) (sym (at_end xs x d k h)) (subst (λ (q : Row). P q x) same is)

-- a base row by its number
pub base_here : (m : Voyage) (k : ℕ) (r : Row) → k < count m → slice_get (all_rows m) k ≡ Some r → row_at m k ≡ r
base_here m k r lt at = same_place (all_rows m) k (row_at m k) r (base_place m k (row_at m k) lt (slice_get-get_or (base_rows m) k (Cell 0 0) lt)) at
