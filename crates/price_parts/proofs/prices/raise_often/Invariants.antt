use Rattle.std.proofs.Common.{◌≡◌}
use Rattle.price_parts.proofs.prices.raise_often.Given as goal

abbrev pub invariant-loop : goal.invariant-loop
invariant-loop l = l.table ≡ l.gauge.voyage
