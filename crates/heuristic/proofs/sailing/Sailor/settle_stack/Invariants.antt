use Rattle.std.proofs.Common.{◌≡◌}
use Rattle.heuristic.proofs.sailing.Sailor.settle_stack.Given as goal

abbrev pub invariant-loop-number : goal.invariant-loop-number
invariant-loop-number l = l.self ≡ l.initial.self
