-- What the plain programs on lists of moves answer.
use Rattle.std.specs.Prelude.{◌≡◌, ℕ, List, Some, take, slice_get}
use Rattle.stow_data.specs.Ship.{Ship}
use Rattle.stow_data.specs.Shipment.{Cargo}
use Rattle.stow_data.specs.Plans.{Plan}
use Rattle.voyage_meaning.specs.declared.moves.Move.{Move}
use Rattle.voyage_meaning.specs.Voyage.{AllOn, IsVoyage, LeadsTo, cost, start}
use Rattle.voyage_meaning.specs.Berths.{NoneSet}
use Rattle.voyage_meaning.specs.Moves.{State, Allowed, AllAllowed, end_of, cost_of_moves}

-- the plan is this one, the quay is empty and all covers are on
pub record EndsAt (ship : Ship) (s : State) (plan : Plan) : Type 0 where
  pub plan_is : s.plan ≡ plan
  pub quay_empty : NoneSet s.quay
  pub covers_on : AllOn ship s.off

-- the moves are allowed, lead to the state t and cost n
pub record Runs (ship : Ship) (cargo : Cargo) (call : ℕ) (s : State) (moves : List Move) (t : State) (n : ℕ) : Type 0 where
  pub allowed : AllAllowed ship cargo call s moves
  pub leads : t ≡ end_of cargo call s moves
  pub costs : n ≡ cost_of_moves cargo call s moves

-- the first n moves are allowed and lead to the state t, and the next one isn't
pub record StopsAt (ship : Ship) (cargo : Cargo) (call : ℕ) (s : State) (moves : List Move) (t : State) (n : ℕ) : Type 0 where
  pub allowed : AllAllowed ship cargo call s (take n moves)
  pub leads : t ≡ end_of cargo call s (take n moves)
  pub move : Move
  pub is_move : slice_get moves n ≡ Some move
  pub refused : Allowed ship cargo t move → ⊥

-- a call's moves lead from one departure to the next and cost n
pub record LeadsBy (ship : Ship) (cargo : Cargo) (call : ℕ) (before : Plan) (moves : List Move) (after : Plan) (n : ℕ) : Type 0 where
  pub leads : LeadsTo ship cargo call before moves after
  pub costs : n ≡ cost_of_moves cargo call (start ship cargo call before) moves

-- the moves are a legal voyage from a call on and cost n
pub record SailsBy (ship : Ship) (cargo : Cargo) (call : ℕ) (before : Plan) (moves : List (List Move)) (departures : List Plan) (n : ℕ) : Type 0 where
  pub legal : IsVoyage ship cargo call before moves departures
  pub costs : n ≡ cost ship cargo call before moves departures
