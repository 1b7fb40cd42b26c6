use Rattle.std.proofs.Common.{◌≡◌, length}
use Rattle.zero_one_rows.specs.Variables.{variables}
use Rattle.price_parts.proofs.prices.add_there.Given as goal

abbrev pub invariant-loop-raise : goal.invariant-loop-raise
invariant-loop-raise l = record {
  voyage : l.gauge.voyage ≡ l.model;
  whole : length l.gauge.box ≡ length (variables l.model);
}
