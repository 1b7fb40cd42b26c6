use Rattle.std.proofs.Common.{◌∙◌, ◌++◌, ◌∷◌, [], List, ap}
use Rattle.crane_lists.specs.declared.tasks.Task.{Task}
use Rattle.crane_lists.proofs.Steps.{tasks_more}
use Rattle.crane_lists.proofs.sharing.pair_up.Goals as goal

pub loop-i-preserved : goal.loop-i-preserved
loop-i-preserved c = c.in_ok-push.ensures ∙ (ap (λ (ts : List Task). ts ++ record { step = c.at.result.now; container = c.at-in-loop-i.result.now } ∷ []) c.loop-i.invariant ∙ tasks_more c.args.moves.now c.args.lifted.now c.loop-i.i c.at.result.now c.at-in-loop-i.result.now c.at.ensures c.at-in-loop-i.ensures)
