use Rattle.stow_cli.proofs.Judging.{check_judges, check_stops, taken}
use Rattle.stow_cli.proofs.checking.check.Goals as goal

pub returns-clause-gives : goal.returns-clause-gives
returns-clause-gives g c = check_judges c.check_voyage-answer.result _ _ _ c.in-Voyage.voyage (taken _ _ _ c.in-Voyage.voyage c.in_ok-voyage.ensures.gives c.in-Voyage.is) c.read_inputs.ensures.stays c.check_voyage-answer.ensures.gives

pub returns-clause-failed : goal.returns-clause-failed
returns-clause-failed g c = check_stops c.check_voyage-answer.result _ _ _ c.in-Voyage.voyage _ _ _ (taken _ _ _ c.in-Voyage.voyage c.in_ok-voyage.ensures.gives c.in-Voyage.is) c.read_inputs.ensures.stays c.read_inputs.ensures.later c.check_voyage-answer.ensures.failed
