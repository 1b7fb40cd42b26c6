use Rattle.std.proofs.Common.{◌≡◌}
use Rattle.heuristic.proofs.leave.Leave.read.Given as goal

abbrev pub invariant-loop-x : goal.invariant-loop-x
invariant-loop-x l = l.self ≡ l.initial.self
