use Rattle.std.proofs.Common.{◌≡◌, ◌-◌, ◌≤◌, true, length, slice_range}
use Rattle.std.specs.List.{list_all}
use Rattle.edifact_segments.specs.Scanning.{is_ordinary}
use Rattle.edifact_segments.proofs.reading.run_end.Given as goal

abbrev pub invariant-loop-at : goal.invariant-loop-at
invariant-loop-at l = record {
  least : l.from ≤ l.at;
  within : l.at ≤ length l.bytes;
  run : list_all (is_ordinary l.scanner.service) (slice_range l.bytes l.from l.at) ≡ true;
}

abbrev pub decreases-loop-at : goal.decreases-loop-at
decreases-loop-at l = length l.bytes - l.at
