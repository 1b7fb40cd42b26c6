-- One side of a place: empty, and borne by what is directly below it.
use Rattle.std.specs.Prelude.{◌≡◌, ℕ, ◌+◌, Bool}
use Rattle.stow_data.specs.declared.geometry.Place.{Place}
use Rattle.stow_data.specs.declared.geometry.Length.{Length}
use Rattle.stow_data.specs.Ship.{Ship, TakesSide, half_at}
use Rattle.stow_data.specs.Shipment.{Cargo}
use Rattle.stow_data.specs.Plans.{Plan}
use Rattle.stowage_rules.specs.Places.{IsTaken}
use Rattle.stowage_rules.specs.Departure.{half_of}
use Rattle.voyage_meaning.specs.Refusals.{IsBearing}

abbrev pub IsEmptyOn : Ship → Plan → Place → Bool → Type 0
IsEmptyOn ship plan p side = TakesSide p.span side → IsTaken ship plan (half_at p side) → ⊥

-- what is directly below it bears a container of this length
abbrev pub IsBorneOn : Ship → Cargo → Plan → Place → Length → Bool → Type 0
IsBorneOn ship cargo plan p long side = (t : ℕ) → TakesSide p.span side → p.tier ≡ t + 1 → IsBearing ship cargo plan long (half_of p.stack t side)
