use Rattle.std.proofs.Common.{◌≡◌}
use Rattle.heuristic.proofs.lifting.survey.Given as goal

abbrev pub invariant-loop-number : goal.invariant-loop-number
invariant-loop-number l = l.ship_state ≡ l.initial.ship_state
