use Rattle.std.proofs.Common.{ℕ, ◌<◌, ◌≤◌}
use Rattle.std.specs.Prelude.{slice_index_or}
use Rattle.row_matrix.proofs.margins.heaviest_of.Given as goal

abbrev pub invariant-loop-weight : goal.invariant-loop-weight
invariant-loop-weight l = (v d : ℕ) → v < l.weight-index → slice_index_or l.weights v d ≤ l.heaviest
