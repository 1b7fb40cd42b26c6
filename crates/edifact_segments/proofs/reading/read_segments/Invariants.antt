use Rattle.std.proofs.Common.{◌≡◌, ◌-◌, ◌≤◌, ℕ, List, ◌++◌, length, drop}
use Rattle.edifact_segments.specs.Grammar.{Begins, IsGap, IsHeaded}
use Rattle.edifact_segments.specs.Scanning.{skip}
use Rattle.edifact_segments.proofs.reading.read_segments.Given as goal

abbrev pub invariant-loop-at : goal.invariant-loop-at
invariant-loop-at l = record {
  within : l.at ≤ length l.bytes;
  few : length l.segments ≤ l.at;
  headed : IsHeaded l.segments;
  settled : skip (drop l.at l.bytes) ≡ drop l.at l.bytes;
  begun : (gap : List ℕ) × Begins l.scanner.service (drop l.start l.bytes) l.segments (gap ++ drop l.at l.bytes) × IsGap gap;
}

abbrev pub decreases-loop-at : goal.decreases-loop-at
decreases-loop-at l = length l.bytes - l.at
