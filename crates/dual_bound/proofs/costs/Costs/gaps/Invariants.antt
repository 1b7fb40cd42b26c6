use Rattle.std.proofs.Common.{◌≡◌, ◌≤◌, ◌*◌, ◌^◌, length, map, ◌*ℤ◌}
use Rattle.std.specs.Int.RustNames.{unsigned_abs}
use Rattle.proof_trees.specs.Boxes.{at}
use Rattle.zero_one_rows.specs.Variables.{variables}
use Rattle.zero_one_rows.specs.Rows.{whole}
use Rattle.crossing_pricing.specs.Gaps.{number_at, gap}
use Rattle.dual_bound.proofs.Summing.{sum_of_first}
use Rattle.dual_bound.proofs.costs.Costs.gaps.Given as goal

abbrev pub invariant-loop-term : goal.invariant-loop-term
invariant-loop-term l = record {
  value : l.total ≡ sum_of_first (length (variables l.model)) (λ v. gap (at l.b v) (number_at l.self.reduced.items v) (l.fn.by *ℤ (whole l.model).coef l.row v)) (map (λ t. t.at) l.terms) l.term-index;
  size : unsigned_abs l.total ≤ l.term-index * 2 ^ 57;
}
