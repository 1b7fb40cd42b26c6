use Rattle.std.proofs.Common.{◌≡◌, length}
use Rattle.zero_one_rows.specs.Variables.{variables}
use Rattle.price_parts.proofs.follows.follow_dives.Given as goal

abbrev pub invariant-loop : goal.invariant-loop
invariant-loop l = record {
  program : l.kept.voyage ≡ l.model;
  voyage : l.gauge.voyage ≡ l.model;
  whole : length l.gauge.box ≡ length (variables l.model);
}
