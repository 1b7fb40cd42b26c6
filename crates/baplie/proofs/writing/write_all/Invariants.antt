use Rattle.std.proofs.Common.{◌≡◌, ◌++◌, take}
use Rattle.std.specs.List.{flat_map}
use Rattle.edifact_segments.specs.Written.{written}
use Rattle.baplie.proofs.writing.write_all.Given as goal

abbrev pub invariant-loop-segment : goal.invariant-loop-segment
invariant-loop-segment l = l.out ≡ l.fn.out ++ flat_map written (take l.segment-index l.segments)
