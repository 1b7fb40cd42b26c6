-- Facts of each item of a list, taken apart.
use Rattle.std.proofs.Common.{◌<◌, ℕ, zero, suc, List, [], ◌∷◌, length, get_or, arith}
use Rattle.std.specs.Prelude.{All}

module _ {X : Type 0} (P : X → Type 0) where
  pub first_all : (x : X) (xs : List X) → All P (x ∷ xs) → P x
  first_all x xs h = h zero x (omega arith)

  pub rest_all : (x : X) (xs : List X) → All P (x ∷ xs) → All P xs
  rest_all x xs h = λ k d l. h (suc k) d (omega arith)

  pub none_all : All P []
  none_all = λ k d l. absurd (omega arith)

  pub one_all : (x : X) → P x → All P (x ∷ [])
  one_all x p = λ k d l. elim k as (λ (n : ℕ). n < 1 → P (get_or (x ∷ []) n d)) [ zero ↦ λ m. p | suc n ↦ λ m. absurd (omega arith) ] l

  pub both_all : (x : X) (xs : List X) → P x → All P xs → All P (x ∷ xs)
  both_all x xs p h = λ k d l. elim k as (λ (n : ℕ). n < suc (length xs) → P (get_or (x ∷ xs) n d)) [ zero ↦ λ m. p | suc n ↦ λ m. h n d (omega arith) ] l
