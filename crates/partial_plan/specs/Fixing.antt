-- Variables that are fixed, and freed again.
use Rattle.std.specs.Prelude.{◌≡◌, ℕ, ◌+◌, ◌<◌, true, All, List, [], ◌∷◌, Some, None, length, slice_set, drop}
use Rattle.std.specs.Option.{is_some}
use Rattle.proof_trees.specs.Boxes.{Box, at}

-- how many variables are free
abbrev pub free_in : Box → ℕ
free_in [] = 0
free_in (None ∷ b) = free_in b + 1
free_in (Some y ∷ b) = free_in b

-- these variables are free again
abbrev pub freed : Box → List ℕ → Box
freed b [] = b
freed b (v ∷ vs) = freed (slice_set b v None) vs

-- what was fixed past a place of the list is free again
abbrev pub released : Box → List ℕ → ℕ → Box
released b undo to = freed b (drop to undo)

-- the second box is the first with these variables fixed, which are free in the first
pub record Fixes (b c : Box) (vs : List ℕ) : Type 0 where
  pub back : freed c vs ≡ b
  pub inside : All (λ v. v < length b) vs
  pub each : All (λ v. is_some (at c v) ≡ true) vs
