use Rattle.crane_lists.proofs.Commuting.{commute}
use Rattle.crane_lists.proofs.laws.independent_moves_commute.Goals as goal

pub returns : goal.returns
returns c = commute
