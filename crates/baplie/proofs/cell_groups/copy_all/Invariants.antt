use Rattle.std.proofs.Common.{◌≡◌, take}
use Rattle.baplie.proofs.cell_groups.copy_all.Given as goal

abbrev pub invariant-loop-segment : goal.invariant-loop-segment
invariant-loop-segment l = l.list ≡ take l.segment-index l.segments
