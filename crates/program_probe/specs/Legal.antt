-- Departures of a voyage.
use Rattle.std.specs.Prelude.{◌≡◌, ◌+◌, List, length}
use Rattle.stow_data.specs.Ship.{Ship}
use Rattle.stow_data.specs.Shipment.{Cargo}
use Rattle.stow_data.specs.Plans.{Plan}
use Rattle.stowage_rules.specs.Departure.{AreDepartures}

-- legal departures, one for each call but the last
pub record ArePlans (ship : Ship) (cargo : Cargo) (plans : List Plan) : Type 0 where
  pub each_call : length plans + 1 ≡ length cargo.rotation
  pub legal : AreDepartures ship cargo 1 plans
