use Rattle.model_bridge.proofs.Final.{each_solves}
use Rattle.model_bridge.proofs.solutions.each_voyage_solves.Goals as goal

pub returns : goal.returns
returns c = each_solves
