use Rattle.std.proofs.Common.{◌≡◌, ◌≤◌, ◌*◌, ◌^◌, length}
use Rattle.std.specs.Int.RustNames.{unsigned_abs}
use Rattle.proof_trees.specs.Boxes.{at, greatest}
use Rattle.zero_one_rows.specs.Variables.{variables}
use Rattle.zero_one_rows.specs.Rows.{whole}
use Rattle.row_matrix.proofs.Summing.{sum_of_first}
use Rattle.row_matrix.proofs.slack.most_among.Given as goal

abbrev pub invariant-loop-x : goal.invariant-loop-x
invariant-loop-x l = record {
  value : l.total ≡ sum_of_first (length (variables l.model)) (λ v. greatest (at l.b v) ((whole l.model).coef l.r v)) l.vars l.x-index;
  size : unsigned_abs l.total ≤ l.x-index * 2 ^ 17;
}
