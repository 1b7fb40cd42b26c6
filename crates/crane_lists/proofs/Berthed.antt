-- A crane list of a call's moves leads where they lead.
use Rattle.std.specs.Prelude.{◌≡◌, ℕ, List, [], ◌∷◌, slice_get}
use Rattle.std.proofs.Common.{refl, sym, ◌∙◌, ap}
use Rattle.stow_data.specs.Ship.{Ship}
use Rattle.stow_data.specs.Shipment.{Cargo}
use Rattle.stow_data.specs.Plans.{Plan}
use Rattle.voyage_meaning.specs.declared.moves.Move.{Move}
use Rattle.voyage_meaning.specs.Moves.{State, AllAllowed, end_of, after}
use Rattle.voyage_meaning.specs.Voyage.{start, LeadsTo}
use Rattle.crane_lists.specs.declared.tasks.Task.{Task}
use Rattle.crane_lists.specs.Tasks.{CanDoAll, state_after, tasks_of, moves_in}
use Rattle.crane_lists.specs.Rounds.{IsCraneList, IsOrderOf, picked}
use Rattle.crane_lists.proofs.Shared.{shared_out}

pub tasks_can : (ship : Ship) (cargo : Cargo) (call : ℕ) (s : State) (moves : List Move) → AllAllowed ship cargo call s moves → CanDoAll ship cargo call s (tasks_of cargo call s moves)
tasks_can ship cargo call s [] h = tt
tasks_can ship cargo call s (m ∷ ms) h = (record { allowed = h.0; names = refl }, tasks_can ship cargo call (after cargo call s m) ms h.1)

pub tasks_end : (cargo : Cargo) (call : ℕ) (s : State) (moves : List Move) → state_after cargo call s (tasks_of cargo call s moves) ≡ end_of cargo call s moves
tasks_end cargo call s [] = refl
tasks_end cargo call s (m ∷ ms) = tasks_end cargo call (after cargo call s m) ms

pub moves_can : (ship : Ship) (cargo : Cargo) (call : ℕ) (s : State) (ts : List Task) → CanDoAll ship cargo call s ts → AllAllowed ship cargo call s (moves_in ts)
moves_can ship cargo call s [] h = tt
moves_can ship cargo call s (t ∷ ts) h = (h.0.allowed, moves_can ship cargo call (after cargo call s t.step) ts h.1)

pub moves_end : (cargo : Cargo) (call : ℕ) (s : State) (ts : List Task) → end_of cargo call s (moves_in ts) ≡ state_after cargo call s ts
moves_end cargo call s [] = refl
moves_end cargo call s (t ∷ ts) = moves_end cargo call (after cargo call s t.step) ts

pub leads_too : (ship : Ship) (cargo : Cargo) (call : ℕ) (before : Plan) (moves : List Move) (new : Plan) (cranes : ℕ) (rounds : List (List ℕ)) (order : List ℕ)
    → LeadsTo ship cargo call before moves new → IsCraneList ship (tasks_of cargo call (start ship cargo call before) moves) cranes rounds → IsOrderOf rounds order
    → LeadsTo ship cargo call before (moves_in (picked (tasks_of cargo call (start ship cargo call before) moves) order)) new
leads_too ship cargo call before moves new cranes rounds order leads list is =
    let s = start ship cargo call before in
    let ts = tasks_of cargo call s moves in
    let us = picked ts order in
    let work = shared_out ship cargo call s ts cranes rounds order (tasks_can ship cargo call s moves leads.allowed) list is in
    let same : end_of cargo call s (moves_in us) ≡ end_of cargo call s moves = moves_end cargo call s us ∙ (work.ends ∙ tasks_end cargo call s moves) in
    record {
      allowed = moves_can ship cargo call s us work.can;
      plan = ap (λ (x : State). x.plan) same ∙ leads.plan;
      quay_empty = λ c h. leads.quay_empty c (ap (λ (x : State). slice_get x.quay c) (sym same) ∙ h);
      covers_on = λ k cover known. ap (λ (x : State). slice_get x.off k) same ∙ leads.covers_on k cover known;
      departure = leads.departure;
    }
