use Rattle.crane_lists.proofs.Lifting.{lifts_too}
use Rattle.crane_lists.proofs.Shared.{shared_out}
use Rattle.crane_lists.proofs.Berthed.{leads_too}
use Rattle.crane_lists.proofs.laws.crane_lists_keep_the_work.Goals as goal

pub returns-clause-work : goal.returns-clause-work
returns-clause-work c = shared_out

pub returns-clause-leads : goal.returns-clause-leads
returns-clause-leads c = leads_too

pub returns-clause-lifts : goal.returns-clause-lifts
returns-clause-lifts c = lifts_too
