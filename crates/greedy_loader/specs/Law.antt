-- The rule determines the departures.
use Rattle.std.specs.Prelude.{◌≡◌, ℕ, List, Option}
use Rattle.stow_data.specs.Ship.{Ship}
use Rattle.stow_data.specs.Shipment.{Cargo}
use Rattle.stow_data.specs.Plans.{Plan}
use Rattle.greedy_loader.specs.Calls.{DepartFrom}

-- whatever departures the rule makes of a plan, they are the same
abbrev pub HasOneVoyage : Type 0
HasOneVoyage = (ship : Ship) (cargo : Cargo) (call : ℕ) (before : Plan) (left : ℕ) (plans others : Option (List Plan)) → DepartFrom ship cargo call before left plans → DepartFrom ship cargo call before left others → plans ≡ others
