use Rattle.plan_files.proofs.Tables.{elsewhere}
use Rattle.plan_files.proofs.ids.enter.Goals as goal

pub returns-clause-others : goal.returns-clause-others
returns-clause-others c = λ other ne. c.in_ok-insert.ensures.updates.2 other (elsewhere c.args.id other ne)
