use Rattle.std.proofs.Common.{◌≡◌, ◌-◌, ◌≤◌, false, List, length, drop}
use Rattle.edifact_segments.specs.Characters.{Character}
use Rattle.edifact_segments.specs.Drafts.{Drafts}
use Rattle.edifact_segments.specs.Scanning.{front}
use Rattle.edifact_segments.proofs.ScanLemmas.{with_characters}
use Rattle.edifact_segments.proofs.reading.read_segment.Given as goal

abbrev pub invariant-loop-at : goal.invariant-loop-at
invariant-loop-at l = record {
  least : l.from ≤ l.at;
  within : l.at ≤ length l.bytes;
  element : l.draft.element ≤ l.at;
  component : l.draft.component ≤ l.at;
  read : (cs : List Character) × Drafts l.scanner.service l.draft cs × (with_characters cs (front l.scanner.service false (drop l.at l.bytes)) ≡ front l.scanner.service false (drop l.from l.bytes));
}

abbrev pub decreases-loop-at : goal.decreases-loop-at
decreases-loop-at l = length l.bytes - l.at
