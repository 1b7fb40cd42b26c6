use Rattle.std.proofs.Common.{◌≡◌}
use Rattle.heuristic.proofs.lifting.lift_all_from.Given as goal

abbrev pub invariant-loop-stack : goal.invariant-loop-stack
invariant-loop-stack l = l.ship_state ≡ l.initial.ship_state
