use Rattle.std.proofs.Common.{◌≡◌, length}
use Rattle.zero_one_rows.specs.Variables.{variables}
use Rattle.price_parts.proofs.prices.go_along.Given as goal

abbrev pub invariant-loop-record : goal.invariant-loop-record
invariant-loop-record l = record {
  voyage : l.gauge.voyage ≡ l.model;
  whole : length l.gauge.box ≡ length (variables l.model);
}
