use Rattle.std.proofs.Common.{◌≡◌}
use Rattle.voyage_state.proofs.ship_state.ShipState.load_all.Given as goal

abbrev pub invariant-loop-kind : goal.invariant-loop-kind
invariant-loop-kind l = l.self ≡ l.initial.self
