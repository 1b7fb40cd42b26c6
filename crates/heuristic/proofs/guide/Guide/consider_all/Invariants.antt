use Rattle.std.proofs.Common.{◌≡◌}
use Rattle.heuristic.proofs.guide.Guide.consider_all.Given as goal

abbrev pub invariant-loop-stay : goal.invariant-loop-stay
invariant-loop-stay l = l.self ≡ l.initial.self
