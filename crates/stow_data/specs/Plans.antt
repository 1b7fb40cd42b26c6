-- Plans, and total look-ups in the lists of a ship and a cargo.
use Rattle.std.specs.Prelude.{◌≡◌, ◌<◌, ℕ, false, List, [], length, Option, Some, None, slice_get, slice_index_or}
use Rattle.std.specs.List.{range_with_len}
use Rattle.stow_data.specs.declared.geometry.Half.{Half}
use Rattle.stow_data.specs.declared.geometry.Place.{Place}
use Rattle.stow_data.specs.declared.geometry.Stack.{Stack}
use Rattle.stow_data.specs.declared.geometry.Span.TheVariants.{Both}
use Rattle.stow_data.specs.declared.geometry.Length.TheVariants as length_of
use Rattle.stow_data.specs.declared.geometry.Lengths.TheVariants as offers
use Rattle.stow_data.specs.declared.cargoes.Container.{Container}
use Rattle.stow_data.specs.declared.cargoes.Origin.TheVariants.{Booked}
use Rattle.stow_data.specs.Ship.{Ship, places}
use Rattle.stow_data.specs.Shipment.{Cargo}

-- for each place by number the container that stands there, or none
abbrev pub Plan : Type 0
Plan = List (Option ℕ)

-- what stands for a number past the end of a list
abbrev pub no_place : Place
no_place = record { stack = 0; tier = 0; span = Both; plug = false }

abbrev pub no_half : Half
no_half = record { stack = 0; tier = 0; aft = false }

abbrev pub no_stack : Stack
no_stack = record { bay = 0; row = 0; lowest = 0; tiers = 0; lengths = offers.Forty; limit_kg = 0; plugs = [] }

abbrev pub no_container : Container
no_container = record { id = []; load = 0; dest = 0; long = length_of.Forty; kg = 0; reefer = false; class = None; origin = Booked 0 }

-- the place, the container, what the plan holds, by number
abbrev pub place_at : Ship → ℕ → Place
place_at ship p = slice_index_or (places ship) p no_place

abbrev pub container_at : Cargo → ℕ → Container
container_at cargo c = slice_index_or cargo.containers c no_container

abbrev pub held : Plan → ℕ → Option ℕ
held plan p = slice_index_or plan p None

-- the numbers of the places, and of the containers
abbrev pub place_numbers : Ship → List ℕ
place_numbers ship = range_with_len 0 (length (places ship))

abbrev pub container_numbers : Cargo → List ℕ
container_numbers cargo = range_with_len 0 (length cargo.containers)

-- every container of the plan is one of the cargo
abbrev pub IsKnown : Cargo → Plan → Type 0
IsKnown cargo plan = (p c : ℕ) → slice_get plan p ≡ Some (Some c) → c < length cargo.containers
