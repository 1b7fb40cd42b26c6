use Rattle.std.proofs.Common.{◌≡◌, IfSome, None, Some, slice_get}
use Rattle.heuristic.proofs.planner.Planner.earliest.Given as goal

abbrev pub invariant-loop-stay : goal.invariant-loop-stay
invariant-loop-stay l = IfSome l.best (λ c. slice_get l.b c.1 ≡ Some None)
