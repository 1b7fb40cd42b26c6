use Rattle.std.proofs.Common.{◌≡◌, length}
use Rattle.zero_one_rows.specs.Variables.{variables}
use Rattle.price_parts.proofs.follows.follow.Given as goal

abbrev pub invariant-loop-k : goal.invariant-loop-k
invariant-loop-k l = record {
  voyage : l.gauge.voyage ≡ l.model;
  whole : length l.gauge.box ≡ length (variables l.model);
}
