use Rattle.baplie.proofs.Whole.{either, not_both, one}
use Rattle.baplie.proofs.law.message_or_fault.Goals as goal

pub returns-clause-either : goal.returns-clause-either
returns-clause-either c = either

pub returns-clause-not_both : goal.returns-clause-not_both
returns-clause-not_both c = not_both

pub returns-clause-one : goal.returns-clause-one
returns-clause-one c = one
