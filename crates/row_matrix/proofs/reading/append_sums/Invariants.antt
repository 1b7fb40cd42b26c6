use Rattle.std.proofs.Common.{◌≡◌, ◌++◌, take}
use Rattle.row_matrix.specs.Counted.{terms_of}
use Rattle.row_matrix.proofs.reading.append_sums.Given as goal

abbrev pub invariant-loop-sum : goal.invariant-loop-sum
invariant-loop-sum l = l.terms.items ≡ l.fn.terms.items ++ terms_of l.minus l.entries (take l.sum-index l.sums)
