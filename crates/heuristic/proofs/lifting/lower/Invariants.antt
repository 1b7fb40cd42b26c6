use Rattle.std.proofs.Common.{◌≡◌}
use Rattle.heuristic.proofs.lifting.lower.Given as goal

abbrev pub invariant-tops : goal.invariant-tops
invariant-tops l = l.ship_state ≡ l.initial.ship_state
