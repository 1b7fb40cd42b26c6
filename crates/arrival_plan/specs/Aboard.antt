-- What the groups of a bay plan have become in the cargo: each container that they tell of is aboard, in their order, in
-- its group's cell, bound for the first call of its port.
use Rattle.std.specs.Prelude.{◌≡◌, ◌<◌, ◌≤◌, ◌+◌, ◌-◌, ℕ, List, Some, count_by, is_some, slice_get, take}
use Rattle.stow_data.specs.Ship.{Ship, HasNumber}
use Rattle.stow_data.specs.Shipment.{Cargo}
use Rattle.stowage_rules.specs.Plan.{Holds}
use Rattle.baplie.specs.declared.parts.CellGroup.{CellGroup}
use Rattle.baplie.specs.declared.parts.Facts.{Facts}
use Rattle.arrival_plan.specs.Arriving.{container_of}

-- the first call of a port, from call 1 on
pub record IsFirstCall (rotation : List (List ℕ)) (port : List ℕ) (call : ℕ) : Type 0 where
  pub from_one : 1 ≤ call
  pub here : slice_get rotation (call - 1) ≡ Some port
  pub none_before : (k : ℕ) → k + 1 < call → slice_get rotation k ≡ Some port → ⊥

-- how many of the groups before this index have a container
abbrev pub containers_before : List CellGroup → ℕ → ℕ
containers_before groups i = count_by (λ g. is_some g.facts) (take i groups)

-- what group i tells of is container n of the cargo, and stands in the group's cell
pub record IsAboardAs (ship : Ship) (cargo : Cargo) (i : ℕ) (g : CellGroup) (f : Facts) (n : ℕ) : Type 0 where
  pub call : ℕ
  pub bound : IsFirstCall cargo.rotation f.dest call
  pub container : slice_get cargo.containers n ≡ Some (container_of i f call)
  pub place : ℕ
  pub cell : HasNumber ship place (g.bay, g.row, g.tier)
  pub stands : Holds cargo.arrival place n
