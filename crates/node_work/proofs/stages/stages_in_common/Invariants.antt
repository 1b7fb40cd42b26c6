use Rattle.std.proofs.Common.{◌≤◌, take, length}
use Rattle.node_work.specs.DualStates.{Matches}
use Rattle.node_work.proofs.stages.stages_in_common.Given as goal

abbrev pub invariant-loop-depth : goal.invariant-loop-depth
invariant-loop-depth l = record {
  records : l.depth ≤ length l.trail;
  alike : Matches (take l.depth l.stages) (take l.depth l.trail);
}
