use Rattle.std.proofs.Common.{◌≡◌, ◌++◌, take}
use Rattle.plan_files.proofs.moved_groups.push_copies.Given as goal

abbrev pub invariant-loop-segment : goal.invariant-loop-segment
invariant-loop-segment l = l.list ≡ l.fn.list ++ take l.segment-index l.segments
