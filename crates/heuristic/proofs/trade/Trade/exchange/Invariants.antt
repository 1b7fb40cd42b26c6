use Rattle.std.proofs.Common.{◌≡◌}
use Rattle.heuristic.proofs.trade.Trade.exchange.Given as goal

abbrev pub invariant-loop-kind : goal.invariant-loop-kind
invariant-loop-kind l = l.ship_state ≡ l.initial.ship_state
