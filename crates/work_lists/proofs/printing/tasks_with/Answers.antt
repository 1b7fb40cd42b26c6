use Rattle.std.proofs.Common.{◌≡◌, ◌<◌, List, [], ◌∷◌, ◌++◌, length, ap, sym, ◌∙◌, arith}
use Rattle.crane_lists.specs.declared.tasks.Task.{Task}
use Rattle.work_lists.proofs.Pairs.{task_next}
use Rattle.work_lists.proofs.printing.tasks_with.Goals as goal

pub loop-i-preserved : goal.loop-i-preserved
loop-i-preserved c =
    let l : c.loop-i.i < length c.args.moves.now = omega (arith, c.loop-i-test.true, c.len-i-end.ensures) in
    let next = task_next c.args.moves.now c.args.lifted.now c.loop-i.i c.at.result.now c.at-in-loop-i.result.now c.requires l c.at.ensures c.at-in-loop-i.ensures in
    c.in_ok-push.ensures ∙ ap (λ (ts : List Task). ts ++ record { step = c.at.result.now; container = c.at-in-loop-i.result.now } ∷ []) c.loop-i.invariant ∙ sym next
