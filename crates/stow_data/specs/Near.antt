-- Which places are near one another, by the level of a separation (cells as in ISO 9711).
use Rattle.std.specs.Prelude.{ℕ, ◌+◌, Bool, true, false, ◌&&◌, ◌||◌, not, ◌==◌, Option, Some, None, slice_get}
use Rattle.stow_data.specs.declared.geometry.Stack.{Stack}
use Rattle.stow_data.specs.declared.geometry.Place.{Place}
use Rattle.stow_data.specs.declared.geometry.Span.{Span}
use Rattle.stow_data.specs.declared.geometry.Span.TheVariants.{Fore, Aft, Both}
use Rattle.stow_data.specs.Ship.{Ship}

-- two places of a tier, or of two tiers, have a column in common: fore, aft or both
abbrev pub has_column_in_common : Span → Span → Bool
has_column_in_common Fore Fore = true
has_column_in_common Fore Aft = false
has_column_in_common Fore Both = true
has_column_in_common Aft Fore = false
has_column_in_common Aft Aft = true
has_column_in_common Aft Both = true
has_column_in_common Both span = true

-- the places have a half-cell in common
abbrev pub meets : Place → Place → Bool
meets p q = (p.stack == q.stack) && ((p.tier == q.tier) && has_column_in_common p.span q.span)

-- their tiers differ by one
abbrev pub adjoins : Place → Place → Bool
adjoins p q = (p.tier == q.tier + 1) || (q.tier == p.tier + 1)

-- in one tier, or in tiers that differ by one with a column in common
abbrev pub is_next : Place → Place → Bool
is_next p q = (p.tier == q.tier) || (adjoins p q && has_column_in_common p.span q.span)

abbrev pub is_same_bay : Option Stack → Option Stack → Bool
is_same_bay (Some s) (Some t) = s.bay == t.bay
is_same_bay (Some s) None = false
is_same_bay None t = false

-- level 1: the same stack, and either the same tier, or tiers that differ by one and a column in common
-- level 2: the same stack
-- level 3: the same bay, hold and deck together
abbrev pub near_by : Ship → ℕ → Place → Place → Bool
near_by ship level p q = ((level == 1) && ((p.stack == q.stack) && is_next p q)) || (((level == 2) && (p.stack == q.stack)) || ((level == 3) && is_same_bay (slice_get ship.stacks p.stack) (slice_get ship.stacks q.stack)))

-- places with a half-cell in common are not near
abbrev pub near : Ship → ℕ → Place → Place → Bool
near ship level p q = near_by ship level p q && not (meets p q)
