use Rattle.stow_cli.specs.Answers.{PlanOf}
use Rattle.stow_cli.proofs.Judging.{judges, taken}
use Rattle.stow_cli.proofs.planning.plan.Goals as goal

pub returns-in-Ok-clause-gives : goal.returns-in-Ok-clause-gives
returns-in-Ok-clause-gives g c = judges _ _ (PlanOf c.args.budget c.args.inputs.base.now) c.in-Ok.answer c.in-Voyage.voyage (taken _ _ _ c.in-Voyage.voyage c.in_ok-voyage.ensures.gives c.in-Voyage.is) c.in-Ok.ensures
