use Rattle.std.proofs.Common.{◌≡◌}
use Rattle.heuristic.proofs.trade.Trade.gather.Given as goal

abbrev pub invariant-loop-stack : goal.invariant-loop-stack
invariant-loop-stack l = l.self ≡ l.initial.self
