use Rattle.std.proofs.Common.{◌≡◌}
use Rattle.price_parts.proofs.prices.rising.Given as goal

abbrev pub invariant-loop-k : goal.invariant-loop-k
invariant-loop-k l = l.gauge.voyage ≡ l.model
