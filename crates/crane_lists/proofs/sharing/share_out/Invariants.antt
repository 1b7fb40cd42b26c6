use Rattle.crane_lists.specs.Sharing.{IsShared, left}
use Rattle.crane_lists.proofs.sharing.share_out.Given as goal

abbrev pub invariant-loop-alloc : goal.invariant-loop-alloc
invariant-loop-alloc l = IsShared l.ship l.tasks l.cranes l.board

abbrev pub decreases-loop-alloc : goal.decreases-loop-alloc
decreases-loop-alloc l = left l.board.done
