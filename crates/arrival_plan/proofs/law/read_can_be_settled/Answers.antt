use Rattle.arrival_plan.proofs.Weights.{settleable}
use Rattle.arrival_plan.proofs.law.read_can_be_settled.Goals as goal

pub returns : goal.returns
returns c = settleable
