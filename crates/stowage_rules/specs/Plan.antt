-- Plans: what stands at each place of a ship, and when a plan is well formed (cells as in ISO 9711).
use Rattle.std.specs.Prelude.{◌≡◌, ℕ, Some, slice_get, length}
use Rattle.stow_data.specs.declared.geometry.Half.{Half}
use Rattle.stow_data.specs.declared.geometry.Place.{Place}
use Rattle.stow_data.specs.declared.cargoes.Container.{Container}
use Rattle.stow_data.specs.Ship.{Ship, places, HasHalf, Takes}
use Rattle.stow_data.specs.Shipment.{Cargo}
use Rattle.stow_data.specs.Plans.{Plan}

-- container c stands at place p
abbrev pub Holds : Plan → ℕ → ℕ → Type 0
Holds plan p c = slice_get plan p ≡ Some (Some c)

-- container c fills the half-cell: it stands at a place of which the half-cell is one
pub record Fills (ship : Ship) (plan : Plan) (h : Half) (c : ℕ) : Type 0 where
  pub number : ℕ
  pub place : Place
  pub is_place : slice_get (places ship) number ≡ Some place
  pub has_half : HasHalf place h
  pub holds : Holds plan number c

-- place p of the ship holds container c of the cargo
pub record Stands (ship : Ship) (cargo : Cargo) (plan : Plan) (p c : ℕ) (place : Place) (container : Container) : Type 0 where
  pub is_place : slice_get (places ship) p ≡ Some place
  pub holds : Holds plan p c
  pub is_container : slice_get cargo.containers c ≡ Some container

-- one entry for each place, containers of the cargo alone, lengths that fit their places, no half-cell in two filled places, no container twice
pub record IsWellFormed (ship : Ship) (cargo : Cargo) (plan : Plan) : Type 0 where
  pub each_place : length plan ≡ length (places ship)
  pub known : (p c : ℕ) → Holds plan p c → (container : Container) × (slice_get cargo.containers c ≡ Some container)
  pub fits : (p c : ℕ) (place : Place) (container : Container) → Stands ship cargo plan p c place container → Takes place container.long
  pub apart : (h : Half) (c d : ℕ) (x : Fills ship plan h c) (y : Fills ship plan h d) → x.number ≡ y.number
  pub once : (p q c : ℕ) → Holds plan p c → Holds plan q c → p ≡ q
