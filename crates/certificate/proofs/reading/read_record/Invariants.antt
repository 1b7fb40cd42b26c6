use Rattle.std.proofs.Common.{◌≡◌, ◌≤◌, ◌-◌, ◌+◌, ◌++◌, drop, length}
use Rattle.std.specs.Prelude.{All}
use Rattle.certificate.specs.Text.{text_of}
use Rattle.certificate.specs.Grammar.{IsRow, IsRaise}
use Rattle.certificate.specs.Reading.{body_so_far}
use Rattle.certificate.proofs.reading.read_record.Given as goal

abbrev pub invariant-loop-line : goal.invariant-loop-line
invariant-loop-line l = record {
  after : l.from ≤ l.at;
  within : l.at ≤ length l.bytes;
  low : l.lines ≤ l.at;
  count : l.lines ≡ l.before + length (body_so_far l.steps l.raises);
  text : drop l.from l.bytes ≡ text_of (body_so_far l.steps l.raises) ++ drop l.at l.bytes;
  are_rows : All IsRow l.steps;
  are_raises : All IsRaise l.raises;
}

abbrev pub decreases-loop-line : goal.decreases-loop-line
decreases-loop-line l = length l.bytes - l.at
