use Rattle.row_matrix.specs.Written.{Flattens}
use Rattle.row_matrix.proofs.written.losses_of.Given as goal

abbrev pub invariant-loop-v : goal.invariant-loop-v
invariant-loop-v l = Flattens l.shares l.rows l.lists l.v
