-- The rules of plans and departures place by place, as the plain programs look at them.
use Rattle.std.specs.Prelude.{◌≡◌, ℕ, ◌<◌, ◌↔◌, List, Some, slice_get}
use Rattle.stow_data.specs.declared.geometry.Half.{Half}
use Rattle.stow_data.specs.declared.geometry.Place.{Place}
use Rattle.stow_data.specs.declared.cargoes.Container.{Container}
use Rattle.stow_data.specs.Ship.{Ship, places, HasHalf, Takes}
use Rattle.stow_data.specs.Shipment.{Cargo, IsAboard}
use Rattle.stow_data.specs.Plans.{Plan}
use Rattle.stowage_rules.specs.Plan.{Holds, Fills}
use Rattle.stowage_rules.specs.Faults.{HasClassAt}

-- container c fills the half-cell from place n
pub record FillsFrom (ship : Ship) (plan : Plan) (n : ℕ) (h : Half) (c : ℕ) : Type 0 where
  pub place : Place
  pub is_place : slice_get (places ship) n ≡ Some place
  pub has_half : HasHalf place h
  pub holds : Holds plan n c

-- something fills the half-cell; from place n
abbrev pub IsTaken : Ship → Plan → Half → Type 0
IsTaken ship plan h = (c : ℕ) × Fills ship plan h c

abbrev pub IsTakenFrom : Ship → Plan → Half → ℕ → Type 0
IsTakenFrom ship plan h n = (c : ℕ) × FillsFrom ship plan n h c

-- what stands at place n is a container of the cargo whose length fits there
abbrev pub FitsAt : Ship → Cargo → Plan → ℕ → Type 0
FitsAt ship cargo plan n = (c : ℕ) → Holds plan n c → (container : Container) × (slice_get cargo.containers c ≡ Some container) × ((place : Place) → slice_get (places ship) n ≡ Some place → Takes place container.long)

-- places p and q, if they aren't one, hold different containers and have no half-cell in common where both are filled
pub record StandsAlone (ship : Ship) (plan : Plan) (p q : ℕ) : Type 0 where
  pub apart : (h : Half) (c d : ℕ) → FillsFrom ship plan p h c → FillsFrom ship plan q h d → p ≡ q
  pub once : (c : ℕ) → Holds plan p c → Holds plan q c → p ≡ q

abbrev pub StandsAloneAt : Ship → Plan → ℕ → Type 0
StandsAloneAt ship plan p = (q : ℕ) → StandsAlone ship plan p q

-- container c stands somewhere; exactly where it is aboard
abbrev pub IsSomewhere : Plan → ℕ → Type 0
IsSomewhere plan c = (p : ℕ) × Holds plan p c

abbrev pub AboardAt : Cargo → ℕ → Plan → ℕ → Type 0
AboardAt cargo call plan c = (container : Container) → slice_get cargo.containers c ≡ Some container → IsSomewhere plan c ↔ IsAboard call container

-- the numbers, rising, of the places below number n at which containers of a class stand
pub record AreOfClass (cargo : Cargo) (plan : Plan) (class : List ℕ) (n : ℕ) (found : List ℕ) : Type 0 where
  pub each : (k q : ℕ) → slice_get found k ≡ Some q → (q < n) × HasClassAt cargo plan q class
  pub all : (q : ℕ) → q < n → HasClassAt cargo plan q class → (k : ℕ) × (slice_get found k ≡ Some q)
  pub rising : (j k p q : ℕ) → j < k → slice_get found j ≡ Some p → slice_get found k ≡ Some q → p < q
