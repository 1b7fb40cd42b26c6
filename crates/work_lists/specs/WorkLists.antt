-- Work lists: the moves of a call shared out to cranes.
use Rattle.std.specs.Prelude.{◌≡◌, ◌≤◌, ℕ, ◌-◌, Bool, List, [], ◌∷◌, length, slice_index_or}
use Rattle.stow_data.specs.Ship.{Ship}
use Rattle.stow_data.specs.Shipment.{Cargo}
use Rattle.stow_data.specs.Plans.{Plan}
use Rattle.voyage_meaning.specs.declared.moves.Move.{Move}
use Rattle.voyage_meaning.specs.Voyage.{LeadsTo, start}
use Rattle.plan_lifts.specs.Least.{IsLeastClosed}
use Rattle.plan_lifts.specs.Lifted.{IsListed, LiftsExactly}
use Rattle.crane_lists.specs.declared.tasks.Task.{Task}
use Rattle.crane_lists.specs.Tasks.{moves_in, tasks_of}
use Rattle.crane_lists.specs.Rounds.{IsCraneList, IsGreedy, IsOrderOf, picked}
use Rattle.crane_lists.specs.Least.{IsLeastRounds}
use Rattle.stow_report.specs.declared.crane_lists.CraneReport.{CraneReport}
use Rattle.work_lists.specs.Shown.{shown_rounds}

-- the departure of a call, where call 0 is the arrival
abbrev pub departure_of : Cargo → List Plan → ℕ → Plan
departure_of cargo departures call = slice_index_or (cargo.arrival ∷ departures) call []

-- the tasks of a call's moves: each with what it lifts or puts
abbrev pub tasks_at : Ship → Cargo → List Plan → ℕ → List Move → List Task
tasks_at ship cargo departures call moves = tasks_of cargo call (start ship cargo call (departure_of cargo departures (call - 1))) moves

-- moves that lead from the departure before a call to that of the call
abbrev pub LeadsAt : Ship → Cargo → List Plan → ℕ → List Move → Type 0
LeadsAt ship cargo departures call moves = LeadsTo ship cargo call (departure_of cargo departures (call - 1)) moves (departure_of cargo departures call)

-- what must be lifted at a call: the containers of the least closed set, by rising number
pub record MustLift (ship : Ship) (cargo : Cargo) (departures : List Plan) (call : ℕ) (list : List ℕ) : Type 0 where
  pub set : ℕ → Bool
  pub is_least : IsLeastClosed ship (departure_of cargo departures (call - 1)) (departure_of cargo departures call) set
  pub listed : IsListed (departure_of cargo departures (call - 1)) set list

-- moves of a call that lift exactly what must be lifted at it, each container once
pub record LiftsLeast (ship : Ship) (cargo : Cargo) (departures : List Plan) (call : ℕ) (moves : List Move) : Type 0 where
  pub list : List ℕ
  pub must : MustLift ship cargo departures call list
  pub exact : LiftsExactly cargo call (start ship cargo call (departure_of cargo departures (call - 1))) moves list

-- done in this order, the tasks of the moves lead to the same departure, and lift exactly what must be lifted
pub record DoesWork (ship : Ship) (cargo : Cargo) (departures : List Plan) (call : ℕ) (moves : List Move) (order : List ℕ) : Type 0 where
  pub leads : LeadsAt ship cargo departures call (moves_in (picked (tasks_at ship cargo departures call moves) order))
  pub lifts : LiftsLeast ship cargo departures call (moves_in (picked (tasks_at ship cargo departures call moves) order))

-- rounds for so many cranes: a crane list that leaves none out of a round that could be in it; done round by round, and in any order within a round, they do the work
pub record AreRounds (ship : Ship) (cargo : Cargo) (departures : List Plan) (call cranes : ℕ) (moves : List Move) (rounds : List (List ℕ)) : Type 0 where
  pub is_list : IsCraneList ship (tasks_at ship cargo departures call moves) cranes rounds
  pub greedy : IsGreedy ship (tasks_at ship cargo departures call moves) cranes [] rounds
  pub any_order : (order : List ℕ) → IsOrderOf rounds order → DoesWork ship cargo departures call moves order

-- the least number of rounds: no crane list of these moves has fewer
pub record IsLeast (ship : Ship) (cargo : Cargo) (departures : List Plan) (call cranes : ℕ) (moves : List Move) (least : ℕ) : Type 0 where
  pub is_least : IsLeastRounds ship moves cranes least
  pub bounds : (others : List (List ℕ)) → IsCraneList ship (tasks_at ship cargo departures call moves) cranes others → least ≤ length others

-- what is printed of a call: its moves, shared out to so many cranes in rounds, and the least number of rounds
pub record IsWorkList (ship : Ship) (cargo : Cargo) (departures : List Plan) (call cranes : ℕ) (report : CraneReport) : Type 0 where
  pub moves : List Move
  pub leads : LeadsAt ship cargo departures call moves
  pub lifts : LiftsLeast ship cargo departures call moves
  pub rounds : List (List ℕ)
  pub are_rounds : AreRounds ship cargo departures call cranes moves rounds
  pub is_least : IsLeast ship cargo departures call cranes moves report.least
  pub cranes_are : report.cranes ≡ cranes
  pub moves_are : report.moves ≡ length moves
  pub rounds_are : report.rounds ≡ shown_rounds ship cargo (tasks_at ship cargo departures call moves) rounds
