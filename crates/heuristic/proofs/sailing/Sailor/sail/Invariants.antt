use Rattle.std.proofs.Common.{◌≡◌}
use Rattle.heuristic.proofs.sailing.Sailor.sail.Given as goal

abbrev pub invariant-loop-call : goal.invariant-loop-call
invariant-loop-call l = l.self ≡ l.initial.self
