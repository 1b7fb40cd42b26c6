use Rattle.model_bridge.proofs.Known.{each_sails}
use Rattle.model_bridge.proofs.solutions.each_solution_sails.Goals as goal

pub returns : goal.returns
returns c = each_sails
