use Rattle.std.proofs.Common.{◌≡◌, length}
use Rattle.zero_one_rows.specs.Variables.{variables}
use Rattle.price_parts.proofs.follows.follow_dive.Given as goal

abbrev pub invariant-loop-x : goal.invariant-loop-x
invariant-loop-x l = record {
  program : l.kept.voyage ≡ l.model;
  voyage : l.gauge.voyage ≡ l.model;
  whole : length l.gauge.box ≡ length (variables l.model);
}
