use Rattle.std.proofs.Common.{◌≡◌}
use Rattle.heuristic.proofs.scope.Scope.fill.Given as goal

abbrev pub invariant-draws : goal.invariant-draws
invariant-draws l = l.self ≡ l.initial.self
