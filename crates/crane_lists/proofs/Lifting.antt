-- A crane list lifts exactly what its moves do.
use Rattle.std.specs.Prelude.{◌≡◌, ℕ, List, [], ◌∷◌, Option, Some, None}
use Rattle.std.proofs.Common.{refl, sym, ◌∙◌, ap, arith}
use Rattle.stow_data.specs.Ship.{Ship}
use Rattle.stow_data.specs.Shipment.{Cargo}
use Rattle.stow_data.specs.Plans.{Plan}
use Rattle.voyage_meaning.specs.declared.moves.Move.{Move}
use Rattle.voyage_meaning.specs.declared.moves.Move.TheVariants.{OffCover, OnCover, Lift, Put}
use Rattle.voyage_meaning.specs.Moves.{State, after}
use Rattle.voyage_meaning.specs.Voyage.{start, LeadsTo}
use Rattle.plan_lifts.specs.Lifted.{LiftsExactly, lifts_weight, or_none}
use Rattle.plan_lifts.specs.Lifted as lists
use Rattle.crane_lists.specs.declared.tasks.Task.{Task}
use Rattle.crane_lists.specs.Tasks.{CanDoAll, moves_in, named, tasks_of}
use Rattle.crane_lists.specs.Rounds.{IsCraneList, IsOrderOf, lift_weight, lifted_weight, picked}
use Rattle.crane_lists.proofs.Berthed.{tasks_can}
use Rattle.crane_lists.proofs.Shared.{shared_out}

one_weight : (h : ℕ → ℕ) (p : ℕ) (o : Option ℕ) → lift_weight h (Lift p) o ≡ or_none h o
one_weight h p None = refl
one_weight h p (Some c) = refl

task_weight : (h : ℕ → ℕ) (s : State) (m : Move) (o : Option ℕ) → named s m ≡ o → lists.lift_weight (or_none h) s m ≡ lift_weight h m o
task_weight h s (Lift p) o e = ap (or_none h) e ∙ sym (one_weight h p o)
task_weight h s (Put c p) o e = refl
task_weight h s (OffCover k) o e = refl
task_weight h s (OnCover k) o e = refl

tasks_weight : (h : ℕ → ℕ) (ship : Ship) (cargo : Cargo) (call : ℕ) (ts : List Task) (s : State) → CanDoAll ship cargo call s ts → lifts_weight (or_none h) cargo call s (moves_in ts) ≡ lifted_weight h ts
tasks_weight h ship cargo call [] s can = refl
tasks_weight h ship cargo call (t ∷ ts) s can = omega (arith, task_weight h s t.step t.container can.0.names, tasks_weight h ship cargo call ts (after cargo call s t.step) can.1)

same_moves : (cargo : Cargo) (call : ℕ) (moves : List Move) (s : State) → moves_in (tasks_of cargo call s moves) ≡ moves
same_moves cargo call [] s = refl
same_moves cargo call (m ∷ ms) s = ap (λ (xs : List Move). m ∷ xs) (same_moves cargo call ms (after cargo call s m))

pub lifts_too : (ship : Ship) (cargo : Cargo) (call : ℕ) (before : Plan) (moves : List Move) (new : Plan) (list : List ℕ) (cranes : ℕ) (rounds : List (List ℕ)) (order : List ℕ)
    → LeadsTo ship cargo call before moves new → LiftsExactly cargo call (start ship cargo call before) moves list → IsCraneList ship (tasks_of cargo call (start ship cargo call before) moves) cranes rounds → IsOrderOf rounds order
    → LiftsExactly cargo call (start ship cargo call before) (moves_in (picked (tasks_of cargo call (start ship cargo call before) moves) order)) list
lifts_too ship cargo call before moves new list cranes rounds order leads exact is_list is h =
    let s = start ship cargo call before in
    let ts = tasks_of cargo call s moves in
    let can = tasks_can ship cargo call s moves leads.allowed in
    let work = shared_out ship cargo call s ts cranes rounds order can is_list is in
    tasks_weight h ship cargo call (picked ts order) s work.can
    ∙ (work.lifts h ∙ (sym (tasks_weight h ship cargo call ts s can) ∙ (ap (λ (ms : List Move). lifts_weight (or_none h) cargo call s ms) (same_moves cargo call moves s) ∙ exact h)))
