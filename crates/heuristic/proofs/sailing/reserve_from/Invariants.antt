use Rattle.std.proofs.Common.{◌≡◌}
use Rattle.heuristic.proofs.sailing.reserve_from.Given as goal

abbrev pub invariant-loop-pledge : goal.invariant-loop-pledge
invariant-loop-pledge l = l.ship_state ≡ l.initial.ship_state
