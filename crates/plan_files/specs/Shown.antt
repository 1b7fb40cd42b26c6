-- The plan that a bay plan shows (SMDG BAPLIE 2.2, cell groups; cell numbers as in ISO 9711).
use Rattle.std.specs.Prelude.{◌≡◌, ◌≢◌, ℕ, ◌+◌, ◌-◌, suc, List, [], ◌∷◌, Option, Some, None, flat_map, slice_get, length, All, AllPairs, ◌↔◌}
use Rattle.baplie.specs.declared.parts.CellGroup as baplie
use Rattle.baplie.specs.declared.parts.Facts.{Facts}
use Rattle.baplie.specs.declared.parts.Message.{Message}
use Rattle.stow_data.specs.declared.geometry.Half.{Half}
use Rattle.stow_data.specs.declared.geometry.Place.{Place}
use Rattle.stow_data.specs.declared.cargoes.Container.{Container}
use Rattle.stow_data.specs.Ship.{Ship, places, HasHalf, HasNumber, Takes}
use Rattle.stow_data.specs.Shipment.{Cargo, IsAboard}
use Rattle.stow_data.specs.Plans.{Plan}
use Rattle.stowage_rules.specs.Plan.{Holds}
use Rattle.stowage_rules.specs.Departure.{AreDepartures}

-- the facts of a cell group: bay, row and tier number of its cell, id and port of discharge of its container
pub record CellGroup : Type 0 where
  pub bay : ℕ
  pub row : ℕ
  pub tier : ℕ
  pub id : List ℕ
  pub port : List ℕ

-- what a cell group shows: its cell, and the number and the port of discharge of its container, where it has one
abbrev pub shown_at : ℕ → ℕ → ℕ → Option Facts → List CellGroup
shown_at bay row tier None = []
shown_at bay row tier (Some f) = record { bay = bay; row = row; tier = tier; id = f.id; port = f.dest } ∷ []

abbrev pub shown_in : baplie.CellGroup → List CellGroup
shown_in g = shown_at g.bay g.row g.tier g.facts

-- what a bay plan message shows
abbrev pub shown_by : Message → List CellGroup
shown_by m = flat_map shown_in m.groups

-- the place has the cell number of the group
pub record IsCellOf (ship : Ship) (g : CellGroup) (place : Place) : Type 0 where
  pub number : ℕ
  pub is_place : slice_get (places ship) number ≡ Some place
  pub cell : HasNumber ship number (g.bay, g.row, g.tier)

-- the group says that container c is at place p: by its id, by the cell of a place that its length fits, and by its port of discharge
pub record Says (ship : Ship) (cargo : Cargo) (g : CellGroup) (p c : ℕ) : Type 0 where
  pub container : Container
  pub is_container : slice_get cargo.containers c ≡ Some container
  pub same_id : g.id ≡ container.id
  pub cell : HasNumber ship p (g.bay, g.row, g.tier)
  pub fits : (place : Place) → slice_get (places ship) p ≡ Some place → Takes place container.long
  pub discharge : slice_get cargo.rotation (container.dest - 1) ≡ Some g.port

-- one of the groups says so
pub record SomeSays (ship : Ship) (cargo : Cargo) (groups : List CellGroup) (p c : ℕ) : Type 0 where
  pub index : ℕ
  pub group : CellGroup
  pub is_group : slice_get groups index ≡ Some group
  pub says : Says ship cargo group p c

-- the group says where a container stands that is aboard after the call
pub record IsAboardGroup (ship : Ship) (cargo : Cargo) (call : ℕ) (g : CellGroup) : Type 0 where
  pub place : ℕ
  pub number : ℕ
  pub says : Says ship cargo g place number
  pub aboard : IsAboard call says.container

-- the cells of two groups have a half-cell in common
pub record SharesHalf (ship : Ship) (g h : CellGroup) : Type 0 where
  pub first : Place
  pub has_first : IsCellOf ship g first
  pub second : Place
  pub has_second : IsCellOf ship h second
  pub half : Half
  pub in_first : HasHalf first half
  pub in_second : HasHalf second half

-- the groups show the plan of a call: each is of a container aboard, no id stands twice, no half-cell is taken twice, each container aboard has a group, and the plan holds exactly what the groups say
pub record Shows (ship : Ship) (cargo : Cargo) (call : ℕ) (groups : List CellGroup) (plan : Plan) : Type 0 where
  pub each_aboard : All (IsAboardGroup ship cargo call) groups
  pub ids_differ : AllPairs (λ g h. g.id ≢ h.id) groups
  pub halves_differ : AllPairs (λ g h. SharesHalf ship g h → ⊥) groups
  pub all_aboard : (c : ℕ) (container : Container) → slice_get cargo.containers c ≡ Some container → IsAboard call container → (p : ℕ) × SomeSays ship cargo groups p c
  pub each_place : length plan ≡ length (places ship)
  pub holds : (p c : ℕ) → Holds plan p c ↔ SomeSays ship cargo groups p c

-- a file set: groups for each call from this one on, which show the plan of their call
abbrev pub ShowAll : Ship → Cargo → ℕ → List (List CellGroup) → List Plan → Type 0
ShowAll ship cargo call [] [] = Unit {0}
ShowAll ship cargo call (groups ∷ rest) (plan ∷ plans) = Shows ship cargo call groups plan × ShowAll ship cargo (suc call) rest plans
ShowAll ship cargo call [] (plan ∷ plans) = ⊥
ShowAll ship cargo call (groups ∷ rest) [] = ⊥

-- a legal file set: groups for each call but the last, each of which show a legal departure
pub record IsLegalFileSet (ship : Ship) (cargo : Cargo) (messages : List (List CellGroup)) (departures : List Plan) : Type 0 where
  pub each_call : length departures + 1 ≡ length cargo.rotation
  pub shown : ShowAll ship cargo 1 messages departures
  pub legal : AreDepartures ship cargo 1 departures
