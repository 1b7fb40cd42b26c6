use Rattle.std.proofs.Common.{◌≡◌, ◌≤◌, [], length, take}
use Rattle.node_work.specs.DualStates.{Staged}
use Rattle.node_work.proofs.stages.lower_to.Given as goal

abbrev pub invariant-loop-alloc : goal.invariant-loop-alloc
invariant-loop-alloc l = record {
  voyage : l.gauge.voyage ≡ l.fn.gauge.voyage;
  known : l.gauge.box ≡ l.fn.gauge.box;
  depth : l.depth ≤ length l.left.items;
  first : l.left.items ≡ take (length l.left.items) l.fn.stages.items;
  staged : Staged l.model [] l.left.items l.gauge.multipliers;
}

abbrev pub decreases-loop-alloc : goal.decreases-loop-alloc
decreases-loop-alloc l = length l.left.items
