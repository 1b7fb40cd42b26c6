-- Moves with what each lifts or puts, one after the other.
use Rattle.std.proofs.Common.{◌≡◌, ℕ, suc, ◌+◌, ◌<◌, List, [], ◌∷◌, ◌++◌, length, take, Option, Some, refl, ap, ap₂, ◌∙◌, arith}
use Rattle.std.specs.Prelude.{slice_get}
use Rattle.std.proofs.lemmas.List.{length-take-le, take_more}
use Rattle.std.proofs.lemmas.Option.{get_or_from_slice_get}
use Rattle.voyage_meaning.specs.declared.moves.Move.{Move}
use Rattle.crane_lists.specs.declared.tasks.Task.{Task}
use Rattle.crane_lists.specs.Tasks.{tasks_with}

tasks_more : (ms : List Move) (cs : List (Option ℕ)) (m : Move) (c : Option ℕ) → length ms ≡ length cs → tasks_with (ms ++ m ∷ []) (cs ++ c ∷ []) ≡ tasks_with ms cs ++ record { step = m; container = c } ∷ []
tasks_more [] [] m c e = refl
tasks_more [] (d ∷ cs) m c e = absurd (omega (arith, e))
tasks_more (n ∷ ms) [] m c e = absurd (omega (arith, e))
tasks_more (n ∷ ms) (d ∷ cs) m c e = ap (λ (ts : List Task). record { step = n; container = d } ∷ ts) (tasks_more ms cs m c (omega (arith, e)))

pub task_next : (moves : List Move) (lifted : List (Option ℕ)) (i : ℕ) (m : Move) (c : Option ℕ) → length lifted ≡ length moves → i < length moves → slice_get moves i ≡ Some m → slice_get lifted i ≡ Some c
    → tasks_with (take (i + 1) moves) (take (i + 1) lifted) ≡ tasks_with (take i moves) (take i lifted) ++ record { step = m; container = c } ∷ []
task_next moves lifted i m c same l is has =
    let l' : i < length lifted = omega (arith, same, l) in
    let e : take (i + 1) moves ≡ take i moves ++ m ∷ [] = take_more moves i m l ∙ ap (λ (z : Move). take i moves ++ z ∷ []) (get_or_from_slice_get moves i m m is) in
    let f : take (i + 1) lifted ≡ take i lifted ++ c ∷ [] = take_more lifted i c l' ∙ ap (λ (z : Option ℕ). take i lifted ++ z ∷ []) (get_or_from_slice_get lifted i c c has) in
    let a : length (take i moves) ≡ i = length-take-le i moves (omega (arith, l)) in
    let b : length (take i lifted) ≡ i = length-take-le i lifted (omega (arith, l')) in
    ap₂ tasks_with e f ∙ tasks_more (take i moves) (take i lifted) m c (omega (arith, a, b))
