use Rattle.row_matrix.specs.Written.{AreRowTerms}
use Rattle.row_matrix.proofs.written.terms_of_rows.Given as goal

abbrev pub invariant-loop-k : goal.invariant-loop-k
invariant-loop-k l = AreRowTerms l.model l.lists l.k
