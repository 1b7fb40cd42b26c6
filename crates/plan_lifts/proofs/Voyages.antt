-- No legal voyage costs less than the least sets.
use Rattle.std.specs.Prelude.{◌≡◌, ℕ, Bool, false, List, [], ◌∷◌, Some, slice_get, ◌≤◌, suc, zero, map}
use Rattle.std.proofs.Common.{refl, arith, subst}
use Rattle.std.proofs.lemmas.Option.{none-some}
use Rattle.stow_data.specs.declared.geometry.Cover.{Cover}
use Rattle.voyage_meaning.specs.declared.moves.Move.{Move}
use Rattle.stow_data.specs.Ship.{Ship}
use Rattle.stow_data.specs.Shipment.{Cargo}
use Rattle.stow_data.specs.Plans.{Plan}
use Rattle.voyage_meaning.specs.Moves.{lift_cost, cost_of_moves}
use Rattle.voyage_meaning.specs.Voyage.{start, LeadsTo, IsVoyage, cost}
use Rattle.plan_lifts.specs.Least.{counted, cost_of_lifts, IsClosed, IsLeastClosed, AreLeast}
use Rattle.plan_lifts.proofs.Lower.{lifted_closed, is_lifted}
use Rattle.plan_lifts.proofs.Count.{counted_more, lifted_costs}

starts_on : (covers : List Cover) (k : ℕ) (cover : Cover) → slice_get covers k ≡ Some cover → slice_get (map (λ (_ : Cover). false) covers) k ≡ Some false
starts_on [] k cover h = absurd (none-some cover h)
starts_on (c ∷ cs) zero cover h = refl
starts_on (c ∷ cs) (suc k) cover h = starts_on cs k cover h

-- what a call's moves lift from is a closed set
pub leads_closed : (ship : Ship) (cargo : Cargo) (call : ℕ) (before after : Plan) (moves : List Move) → LeadsTo ship cargo call before moves after → IsClosed ship before after (is_lifted moves)
leads_closed ship cargo call before after moves leads = subst (λ (x : Plan). IsClosed ship before x (is_lifted moves)) leads.plan (lifted_closed ship cargo call moves (start ship cargo call before) (starts_on ship.covers) leads.allowed)

-- at one call
pub call_costs : (ship : Ship) (cargo : Cargo) (call : ℕ) (before after : Plan) (moves : List Move) (least : ℕ → Bool) → IsLeastClosed ship before after least → LeadsTo ship cargo call before moves after → counted (lift_cost cargo call) least before ≤ cost_of_moves cargo call (start ship cargo call before) moves
call_costs ship cargo call before after moves least is_least leads =
    let closed : IsClosed ship before after (is_lifted moves) = leads_closed ship cargo call before after moves leads in
    omega (arith, counted_more (lift_cost cargo call) least (is_lifted moves) before (λ p c held on. is_least.least (is_lifted moves) closed p on) refl, lifted_costs ship cargo call moves (start ship cargo call before) leads.allowed)

-- over the whole voyage
pub voyage_costs : (ship : Ship) (cargo : Cargo) (call : ℕ) (before : Plan) (voyage : List (List Move)) (departures : List Plan) (sets : List (ℕ → Bool)) → AreLeast ship before departures sets → IsVoyage ship cargo call before voyage departures → cost_of_lifts cargo call before departures sets ≤ cost ship cargo call before voyage departures
voyage_costs ship cargo call before [] [] sets least legal = omega arith
voyage_costs ship cargo call before (ms ∷ rest) (after ∷ departures) (f ∷ fs) least legal = omega (arith, call_costs ship cargo call before after ms f least.0 legal.0, voyage_costs ship cargo (suc call) after rest departures fs least.1 legal.1)
voyage_costs ship cargo call before (ms ∷ rest) (after ∷ departures) [] least legal = omega arith
voyage_costs ship cargo call before (ms ∷ rest) [] sets least legal = omega arith
voyage_costs ship cargo call before [] (after ∷ departures) sets least legal = absurd legal
