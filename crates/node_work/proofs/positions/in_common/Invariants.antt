use Rattle.std.proofs.Common.{◌≡◌, ◌≤◌, map, take, length}
use Rattle.node_work.specs.Positions.{entry_in, value_in}
use Rattle.node_work.proofs.positions.in_common.Given as goal

abbrev pub invariant-loop-depth : goal.invariant-loop-depth
invariant-loop-depth l = record {
  records : l.depth ≤ length l.trail;
  entries : map entry_in (take l.depth l.frames) ≡ take l.depth l.trail;
  values : map value_in (take l.depth l.frames) ≡ take l.depth l.path;
}
