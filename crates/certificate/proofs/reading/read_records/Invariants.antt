use Rattle.std.proofs.Common.{◌≡◌, ◌≤◌, ◌-◌, ◌+◌, ◌++◌, drop, length}
use Rattle.std.specs.Prelude.{All, flat_map}
use Rattle.certificate.specs.Text.{text_of, record_lines}
use Rattle.certificate.specs.Grammar.{IsRecord}
use Rattle.certificate.proofs.reading.read_records.Given as goal

abbrev pub invariant-loop-line : goal.invariant-loop-line
invariant-loop-line l = record {
  after : l.from ≤ l.at;
  within : l.at ≤ length l.bytes;
  low : l.lines ≤ l.at;
  count : l.lines ≡ 5 + length (flat_map record_lines l.tree);
  text : drop l.from l.bytes ≡ text_of (flat_map record_lines l.tree) ++ drop l.at l.bytes;
  are_records : All IsRecord l.tree;
}

abbrev pub decreases-loop-line : goal.decreases-loop-line
decreases-loop-line l = length l.bytes - l.at
