-- What the fields of a ship mean.
use Rattle.std.specs.Prelude.{◌≡◌, length}
use Rattle.stow_data.specs.declared.ships.Ship.TheInside.{Inside}
use Rattle.stow_data.specs.Ship.{Ship, places, halves}
use Rattle.stow_data.specs.Profile.{IsShip}
use Rattle.stow_data.specs.CellTable.{IsCellTable}
use Rattle.stow_data.specs.CoverTable.{IsCoverTable}
use Rattle.stow_data.specs.declared.hatches.Naming.TheVariants.{Under, On}

abbrev pub ship_of : Inside → Ship
ship_of a = record { name = a.name; weight_step = a.weight_step; stacks = a.stacks; covers = a.covers; separations = a.separations }

-- the tables list the places and the half-cells of a ship that obeys the rules, and lead to its covers and places
pub record IsTabled (a : Inside) : Type 0 where
  pub place_table : a.place_table ≡ places (ship_of a)
  pub half_table : a.half_table ≡ halves (ship_of a)
  pub over_table : IsCoverTable a.covers Under a.over_table
  pub over_each : length a.over_table ≡ length a.stacks
  pub under_table : IsCoverTable a.covers On a.under_table
  pub under_each : length a.under_table ≡ length a.stacks
  pub cell_table : IsCellTable a.stacks a.place_table a.cell_table
  pub rules : IsShip (ship_of a)
