-- Places by stack and tier, in the order of their numbers.
use Rattle.std.specs.Prelude.{◌≡◌, ℕ, ◌<◌, ◌⊎◌, ◌↔◌, Some, slice_get}
use Rattle.stow_data.specs.declared.geometry.Place.{Place}
use Rattle.stow_data.specs.Ship.{Ship, places}

-- the place is in an earlier stack, or lower in this one than the tier
abbrev pub IsBefore : Place → ℕ → ℕ → Type 0
IsBefore p stack tier = (p.stack < stack) ⊎ ((p.stack ≡ stack) × (p.tier < tier))

-- the places below number n are before the tier, and no others
abbrev pub IsFirstOf : Ship → ℕ → ℕ → ℕ → Type 0
IsFirstOf ship stack tier n = (p : ℕ) (place : Place) → slice_get (places ship) p ≡ Some place → p < n ↔ IsBefore place stack tier

-- the places below number n are before the tier
abbrev pub AreBefore : Ship → ℕ → ℕ → ℕ → Type 0
AreBefore ship stack tier n = (p : ℕ) (place : Place) → p < n → slice_get (places ship) p ≡ Some place → IsBefore place stack tier
