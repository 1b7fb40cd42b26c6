use Rattle.std.proofs.Common.{◌≡◌, ◌≤◌, ◌-◌, ◌++◌, drop, length}
use Rattle.std.specs.Prelude.{All}
use Rattle.certificate.specs.Reading.{IsToken}
use Rattle.certificate.proofs.Scanned.{spelled}
use Rattle.certificate.proofs.scanning.read_words.Given as goal

abbrev pub invariant-loop-end : goal.invariant-loop-end
invariant-loop-end l = record {
  after : l.from ≤ l.at;
  within : l.at ≤ length l.bytes;
  text : drop l.from l.bytes ≡ spelled l.words.items ++ drop l.at l.bytes;
  are_tokens : All IsToken l.words.items;
}

abbrev pub decreases-loop-end : goal.decreases-loop-end
decreases-loop-end l = length l.bytes - l.at
