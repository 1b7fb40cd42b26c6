use Rattle.std.proofs.Common.{◌≡◌, take}
use Rattle.row_sums.proofs.transposed.joined.Given as goal

abbrev pub invariant-loop-list : goal.invariant-loop-list
invariant-loop-list l = l.flat ≡ take l.list-index l.lists
