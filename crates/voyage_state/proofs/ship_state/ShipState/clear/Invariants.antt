use Rattle.std.proofs.Common.{◌≡◌}
use Rattle.voyage_state.proofs.ship_state.ShipState.clear.Given as goal

abbrev pub invariant-loop-stack : goal.invariant-loop-stack
invariant-loop-stack l = l.self ≡ l.initial.self
