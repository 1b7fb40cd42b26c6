use Rattle.plan_files.proofs.Files.{not_refused}
use Rattle.plan_files.proofs.legal_law.legal_is_checked.Goals as goal

pub returns : goal.returns
returns c ship cargo messages departures e rules shipped legal f = not_refused ship cargo rules shipped messages departures e legal f
