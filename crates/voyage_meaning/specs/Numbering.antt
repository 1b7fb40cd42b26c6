-- Half-cells by stack and level, in the order of their numbers.
use Rattle.std.specs.Prelude.{◌≡◌, ℕ, ◌+◌, ◌*◌, ◌<◌, ◌⊎◌, ◌↔◌, cond, Some, slice_get}
use Rattle.stow_data.specs.declared.geometry.Half.{Half}
use Rattle.stow_data.specs.Ship.{Ship, halves}

-- how high a half-cell stands in its stack: by tier from the bottom, then fore before aft
abbrev pub level : Half → ℕ
level h = 2 * h.tier + cond h.aft 1 0

-- the half-cell is in an earlier stack, or below this level of this one
abbrev pub IsSooner : Half → ℕ → ℕ → Type 0
IsSooner h stack n = (h.stack < stack) ⊎ ((h.stack ≡ stack) × (level h < n))

-- the half-cells below number n are sooner than the level, and no others
abbrev pub IsFirstFrom : Ship → ℕ → ℕ → ℕ → Type 0
IsFirstFrom ship stack n k = (j : ℕ) (h : Half) → slice_get (halves ship) j ≡ Some h → j < k ↔ IsSooner h stack n
