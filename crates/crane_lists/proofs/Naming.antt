-- What moves lift or put, one after the other.
use Rattle.std.specs.Prelude.{◌≡◌, ℕ, suc, ◌≤◌, List, [], ◌∷◌, ◌++◌, Option, length}
use Rattle.std.proofs.Common.{refl, sym, ◌∙◌, ap, drop, append-nil}
use Rattle.std.proofs.lemmas.List.{drop_all}
use Rattle.stow_data.specs.Shipment.{Cargo}
use Rattle.stow_data.specs.Plans.{Plan}
use Rattle.voyage_meaning.specs.declared.moves.Move.{Move}
use Rattle.voyage_meaning.specs.declared.moves.Move.TheVariants.{OffCover, OnCover, Lift, Put}
use Rattle.voyage_meaning.specs.Moves.{State, after}
use Rattle.crane_lists.specs.Tasks.{carried_out, named_from, named_in, tasks_of, tasks_with}

pub named_each : (plan : Plan) (moves : List Move) → length (named_from plan moves) ≡ length moves
named_each plan [] = refl
named_each plan (m ∷ ms) = ap suc (named_each (carried_out plan m) ms)

plan_after : (cargo : Cargo) (call : ℕ) (s : State) (m : Move) → (after cargo call s m).plan ≡ carried_out s.plan m
plan_after cargo call s (Lift p) = refl
plan_after cargo call s (Put c p) = refl
plan_after cargo call s (OffCover k) = refl
plan_after cargo call s (OnCover k) = refl

pub tasks_named : (cargo : Cargo) (call : ℕ) (moves : List Move) (s : State) (plan : Plan) → s.plan ≡ plan → tasks_with moves (named_from plan moves) ≡ tasks_of cargo call s moves
tasks_named cargo call [] s plan e = refl
tasks_named cargo call (m ∷ ms) s plan e =
    let rest : tasks_with ms (named_from (carried_out plan m) ms) ≡ tasks_of cargo call (after cargo call s m) ms = tasks_named cargo call ms (after cargo call s m) (carried_out plan m) (plan_after cargo call s m ∙ ap (λ (q : Plan). carried_out q m) e) in
    let head : named_in plan m ≡ named_in s.plan m = ap (λ (q : Plan). named_in q m) (sym e) in
    cc

pub named_all : (before plan : Plan) (moves : List Move) (lifted : List (Option ℕ)) (i : ℕ) → lifted ++ named_from plan (drop i moves) ≡ named_from before moves → length moves ≤ i → lifted ≡ named_from before moves
named_all before plan moves lifted i e past = sym (append-nil lifted) ∙ (ap (λ (ms : List Move). lifted ++ named_from plan ms) (sym (drop_all i moves past)) ∙ e)
