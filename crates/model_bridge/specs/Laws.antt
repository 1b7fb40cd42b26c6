-- Assignments that meet the base rows, and legal voyages.
use Rattle.std.specs.Prelude.{ℕ, ◌≤◌, Bool, List, pos, ◌≤ℤ◌}
use Rattle.stow_data.specs.Plans.{Plan}
use Rattle.stow_data.specs.Profile.{IsShip}
use Rattle.stow_data.specs.Shipment.{IsCargo, most_cost}
use Rattle.stowage_rules.specs.Departure.{HasArrival}
use Rattle.voyage_meaning.specs.declared.moves.Move.{Move}
use Rattle.voyage_meaning.specs.Voyage.{IsLegalVoyage, voyage_cost}
use Rattle.proof_trees.specs.Program.{cost_of}
use Rattle.zero_one_rows.specs.Variables.{Voyage}
use Rattle.zero_one_rows.specs.Rows.{base, IsSolution}

-- a ship and a cargo that obey their rules, with an arrival that is stowed by the rules
pub record IsProblem (m : Voyage) : Type 0 where
  pub ship : IsShip m.ship
  pub cargo : IsCargo m.cargo
  pub arrives : HasArrival m.ship m.cargo

-- plans of a legal voyage that costs at most what the assignment costs
pub record Sails (m : Voyage) (x : ℕ → Bool) : Type 0 where
  pub plans : List Plan
  pub moves : List (List Move)
  pub legal : IsLegalVoyage m.ship m.cargo moves plans
  pub cheap : pos (voyage_cost m.ship m.cargo moves plans) ≤ℤ cost_of (base m) x

abbrev pub EachSolutionSails : Type 0
EachSolutionSails = (m : Voyage) → IsProblem m → (x : ℕ → Bool) → IsSolution m x → Sails m x

-- an assignment that meets the base rows, which costs at most what the voyage costs, and at most each container's lift at each call but the last
pub record Solves (m : Voyage) (moves : List (List Move)) (plans : List Plan) : Type 0 where
  pub x : ℕ → Bool
  pub solution : IsSolution m x
  pub cheap : cost_of (base m) x ≤ℤ pos (voyage_cost m.ship m.cargo moves plans)
  pub few : cost_of (base m) x ≤ℤ pos (most_cost m.cargo)

abbrev pub EachVoyageSolves : Type 0
EachVoyageSolves = (m : Voyage) → IsProblem m → (moves : List (List Move)) (plans : List Plan) → IsLegalVoyage m.ship m.cargo moves plans → Solves m moves plans

-- every assignment that meets the base rows costs at least the bound
abbrev pub IsCostBound : Voyage → ℕ → Type 0
IsCostBound m bound = (x : ℕ → Bool) → IsSolution m x → pos bound ≤ℤ cost_of (base m) x

-- no legal voyage costs less than the bound
abbrev pub IsVoyageBound : Voyage → ℕ → Type 0
IsVoyageBound m bound = (moves : List (List Move)) (plans : List Plan) → IsLegalVoyage m.ship m.cargo moves plans → bound ≤ voyage_cost m.ship m.cargo moves plans

-- there is no legal voyage
abbrev pub HasNoVoyage : Voyage → Type 0
HasNoVoyage m = (moves : List (List Move)) (plans : List Plan) → IsLegalVoyage m.ship m.cargo moves plans → ⊥
