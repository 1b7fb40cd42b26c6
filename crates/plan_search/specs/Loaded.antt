-- Plans of a voyage with their cost, and those that the loader's rule makes.
use Rattle.std.specs.Prelude.{◌≡◌, ℕ, ◌+◌, ◌-◌, List, length, Option, Some, None}
use Rattle.stow_data.specs.Plans.{Plan}
use Rattle.stow_data.specs.Shipment.{most_cost}
use Rattle.stowage_rules.specs.Departure.{AreDepartures}
use Rattle.voyage_meaning.specs.Voyage.{HasCost}
use Rattle.greedy_loader.specs.Calls.{DepartFrom}
use Rattle.zero_one_rows.specs.Variables.{Voyage}

-- the departures of calls 1 to N-1 that the loader's rule makes of the arrival, or none
abbrev pub AreLoaded : Voyage → Option (List Plan) → Type 0
AreLoaded m plans = DepartFrom m.ship m.cargo 1 m.cargo.arrival (length m.cargo.rotation - 1) plans

-- the cost of plans; where there are none, one above the most that a voyage needs to cost
abbrev pub IsCostOf : Voyage → Option (List Plan) → ℕ → Type 0
IsCostOf m None n = n ≡ most_cost m.cargo + 1
IsCostOf m (Some plans) n = HasCost m.ship m.cargo plans n

-- legal departures, one for each call but the last
pub record ArePlans (m : Voyage) (plans : List Plan) : Type 0 where
  pub each_call : length plans + 1 ≡ length m.cargo.rotation
  pub legal : AreDepartures m.ship m.cargo 1 plans
