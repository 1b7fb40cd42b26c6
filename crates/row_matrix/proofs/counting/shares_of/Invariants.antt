use Rattle.std.proofs.Common.{◌≡◌, map, take}
use Rattle.row_matrix.specs.Counted.{share_of}
use Rattle.row_matrix.proofs.counting.shares_of.Given as goal

abbrev pub invariant-loop-number : goal.invariant-loop-number
invariant-loop-number l = l.shares ≡ map (share_of l.z l.weight) (take l.number-index l.sums)
