-- Legal voyages with given departures, and their cost (after Avriel, Penn, Shpirer and Witteboon 1998).
use Rattle.std.specs.Prelude.{◌≡◌, ℕ, ◌+◌, ◌≤◌, suc, Bool, true, false, List, [], ◌∷◌, Some, slice_get, length, map, ◌==◌}
use Rattle.stow_data.specs.declared.geometry.Cover.{Cover}
use Rattle.stow_data.specs.Ship.{Ship}
use Rattle.stow_data.specs.Shipment.{Cargo}
use Rattle.voyage_meaning.specs.declared.moves.Move.{Move}
use Rattle.stow_data.specs.Plans.{Plan}
use Rattle.stowage_rules.specs.Departure.{IsDeparture}
use Rattle.voyage_meaning.specs.Moves.{State, AllAllowed, end_of, cost_of_moves}

-- all covers are on
abbrev pub AllOn : Ship → List Bool → Type 0
AllOn ship off = (k : ℕ) (cover : Cover) → slice_get ship.covers k ≡ Some cover → slice_get off k ≡ Some false

-- how a call begins: with the departure before, all covers on, and on the quay what loads here
abbrev pub start : Ship → Cargo → ℕ → Plan → State
start ship cargo call plan = record { plan = plan; quay = map (λ c. c.load == call) cargo.containers; off = map (λ _. false) ship.covers }

-- a call's moves lead from one departure to the next: each is allowed, and at the end the quay is empty, all covers are on, and the plan is a legal departure
pub record LeadsTo (ship : Ship) (cargo : Cargo) (call : ℕ) (before : Plan) (moves : List Move) (after : Plan) : Type 0 where
  pub allowed : AllAllowed ship cargo call (start ship cargo call before) moves
  pub plan : (end_of cargo call (start ship cargo call before) moves).plan ≡ after
  pub quay_empty : (c : ℕ) → slice_get (end_of cargo call (start ship cargo call before) moves).quay c ≡ Some true → ⊥
  pub covers_on : AllOn ship (end_of cargo call (start ship cargo call before) moves).off
  pub departure : IsDeparture ship cargo call after

-- a legal voyage from a call on: a list of moves for each call, with these departures
abbrev pub IsVoyage : Ship → Cargo → ℕ → Plan → List (List Move) → List Plan → Type 0
IsVoyage ship cargo call before [] [] = Unit {0}
IsVoyage ship cargo call before (moves ∷ rest) (after ∷ departures) = LeadsTo ship cargo call before moves after × IsVoyage ship cargo (suc call) after rest departures
IsVoyage ship cargo call before [] (after ∷ departures) = ⊥
IsVoyage ship cargo call before (moves ∷ rest) [] = ⊥

-- its cost
abbrev pub cost : Ship → Cargo → ℕ → Plan → List (List Move) → List Plan → ℕ
cost ship cargo call before [] departures = 0
cost ship cargo call before (moves ∷ rest) [] = 0
cost ship cargo call before (moves ∷ rest) (after ∷ departures) = cost_of_moves cargo call (start ship cargo call before) moves + cost ship cargo (suc call) after rest departures

-- a legal voyage of a cargo: calls 1 to N-1, from the arrival; at the last call all leaves, and nothing there costs
pub record IsLegalVoyage (ship : Ship) (cargo : Cargo) (moves : List (List Move)) (departures : List Plan) : Type 0 where
  pub each_call : length departures + 1 ≡ length cargo.rotation
  pub voyage : IsVoyage ship cargo 1 cargo.arrival moves departures

abbrev pub voyage_cost : Ship → Cargo → List (List Move) → List Plan → ℕ
voyage_cost ship cargo moves departures = cost ship cargo 1 cargo.arrival moves departures

-- the cost of a list of departures: there is a legal voyage of this cost with them, and none costs less
pub record HasCost (ship : Ship) (cargo : Cargo) (departures : List Plan) (number : ℕ) : Type 0 where
  pub moves : List (List Move)
  pub is_legal : IsLegalVoyage ship cargo moves departures
  pub is_number : voyage_cost ship cargo moves departures ≡ number
  pub least : (other : List (List Move)) → IsLegalVoyage ship cargo other departures → number ≤ voyage_cost ship cargo other departures
