use Rattle.std.proofs.Common.{◌≡◌, IfSome, None, Some, slice_get}
use Rattle.heuristic.proofs.planner.Planner.branch.Given as goal

abbrev pub invariant-loop-stays : goal.invariant-loop-stays
invariant-loop-stays l = IfSome l.best (λ c. slice_get l.b c.1 ≡ Some None)
