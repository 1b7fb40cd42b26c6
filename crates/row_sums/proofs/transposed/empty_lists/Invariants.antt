use Rattle.std.proofs.Common.{◌≡◌, [], replicate}
use Rattle.row_sums.proofs.transposed.empty_lists.Given as goal

abbrev pub invariant-loop-key : goal.invariant-loop-key
invariant-loop-key l = l.lists.items ≡ replicate l._key []
