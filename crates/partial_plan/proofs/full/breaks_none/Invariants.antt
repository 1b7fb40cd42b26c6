use Rattle.partial_plan.proofs.Calming.{MetBelow}
use Rattle.partial_plan.proofs.full.breaks_none.Given as goal

abbrev pub invariant-loop-k : goal.invariant-loop-k
invariant-loop-k l = MetBelow l.model l.b l.k
