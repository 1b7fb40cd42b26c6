use Rattle.stow_cli.proofs.Agreement.{answers_agree, limits_exclude}
use Rattle.stow_cli.proofs.law.answers_agree.Goals as goal

pub returns-clause-agree : goal.returns-clause-agree
returns-clause-agree c = answers_agree

pub returns-clause-limits : goal.returns-clause-limits
returns-clause-limits c = limits_exclude
