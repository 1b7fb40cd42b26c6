use Rattle.row_matrix.specs.Parted.{AreRowSums}
use Rattle.row_matrix.proofs.signed.push_rows.Given as goal

abbrev pub invariant-loop-k : goal.invariant-loop-k
invariant-loop-k l = AreRowSums l.model l.matrix.numbering l.value l.lists l.k
