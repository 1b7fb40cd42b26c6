use Rattle.std.proofs.Common.{◌≡◌}
use Rattle.heuristic.proofs.trade.Trade.take_all.Given as goal

abbrev pub invariant-loop-kind : goal.invariant-loop-kind
invariant-loop-kind l = l.self ≡ l.initial.self
