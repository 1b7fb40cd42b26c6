-- Legal departures are plans that lifts are listed for.
use Rattle.std.proofs.Common.{◌≡◌, ℕ, suc, List, [], ◌∷◌, subst}
use Rattle.stow_data.specs.Ship.{Ship}
use Rattle.stow_data.specs.Shipment.{Cargo}
use Rattle.stow_data.specs.Plans.{Plan}
use Rattle.stowage_rules.specs.Departure.{AreDepartures}
use Rattle.voyage_meaning.specs.declared.moves.Move.{Move}
use Rattle.voyage_meaning.specs.Voyage.{IsVoyage}
use Rattle.plan_lifts.specs.Lifted as lifts
use Rattle.proof_trees.specs.Boxes.{Box}
use Rattle.zero_one_rows.specs.Variables.{Voyage}
use Rattle.model_bridge.specs.Sailed.{AreSailed}
use Rattle.program_probe.specs.Legal.{ArePlans}

pub formed : (ship : Ship) (cargo : Cargo) (call : ℕ) (plans : List Plan) → AreDepartures ship cargo call plans → lifts.ArePlans ship cargo call plans
formed ship cargo call [] h = tt
formed ship cargo call (plan ∷ plans) h = (h.0.stowed.well_formed, h.0.stowed.aboard, formed ship cargo (suc call) plans h.1)

departs : (ship : Ship) (cargo : Cargo) (call : ℕ) (before : Plan) (moves : List (List Move)) (plans : List Plan) → IsVoyage ship cargo call before moves plans → AreDepartures ship cargo call plans
departs ship cargo call before [] [] h = tt
departs ship cargo call before [] (after ∷ plans) h = absurd h
departs ship cargo call before (ms ∷ moves) [] h = absurd h
departs ship cargo call before (ms ∷ moves) (after ∷ plans) h = (h.0.departure, departs ship cargo (suc call) after moves plans h.1)

-- the plans of a full box are legal departures
pub sailed : (m : Voyage) (ship : Ship) (cargo : Cargo) (b : Box) (plans : List Plan) → m.ship ≡ ship → m.cargo ≡ cargo → AreSailed m b plans → ArePlans ship cargo plans
sailed m ship cargo b plans e f s =
    let made : ArePlans m.ship m.cargo plans = record { each_call = s.legal.each_call; legal = departs m.ship m.cargo 1 m.cargo.arrival s.moves plans s.legal.voyage } in
    subst (λ (x : Ship). ArePlans x cargo plans) e (subst (λ (k : Cargo). ArePlans m.ship k plans) f made)
