use Rattle.std.proofs.Common.{◌≡◌}
use Rattle.heuristic.proofs.kept.Kept.clear_all.Given as goal

abbrev pub invariant-loop-stack : goal.invariant-loop-stack
invariant-loop-stack l = l.self ≡ l.initial.self
