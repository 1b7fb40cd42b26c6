use Rattle.std.proofs.Common.{◌≡◌, ◌≤◌, ◌*◌, ◌^◌}
use Rattle.std.specs.Int.RustNames.{unsigned_abs}
use Rattle.proof_trees.specs.Program.{sum_to}
use Rattle.proof_trees.specs.Boxes.{at, greatest}
use Rattle.zero_one_rows.specs.Rows.{whole}
use Rattle.row_matrix.proofs.slack.most_of.Given as goal

abbrev pub invariant-loop-v : goal.invariant-loop-v
invariant-loop-v l = record {
  value : l.total ≡ sum_to l.v (λ v. greatest (at l.b v) ((whole l.model).coef l.r v));
  size : unsigned_abs l.total ≤ l.v * 2 ^ 17;
}
