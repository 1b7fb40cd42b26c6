use Rattle.row_matrix.specs.Margins.{AreMargins}
use Rattle.row_matrix.proofs.margins.push_margins.Given as goal

abbrev pub invariant-loop-k : goal.invariant-loop-k
invariant-loop-k l = AreMargins l.model l.margins l.k
