use Rattle.std.proofs.Common.{◌≡◌}
use Rattle.heuristic.proofs.kept.Kept.copy_from.Given as goal

abbrev pub invariant-loop-stays : goal.invariant-loop-stays
invariant-loop-stays l = l.self ≡ l.initial.self
