use Rattle.partial_plan.proofs.Ones.{OnesBelow}
use Rattle.partial_plan.proofs.packing.ones_of.Given as goal

abbrev pub invariant-loop-v : goal.invariant-loop-v
invariant-loop-v l = OnesBelow l.b l.v l.ones
