use Rattle.std.proofs.Common.{◌≡◌, ◌≤◌, ◌*◌}
use Rattle.std.specs.Int.RustNames.{unsigned_abs}
use Rattle.proof_trees.specs.Program.{sum_to}
use Rattle.proof_trees.specs.Boxes.{at}
use Rattle.proof_trees.specs.Multipliers.{least}
use Rattle.crossing_pricing.specs.Gaps.{number_at}
use Rattle.dual_bound.proofs.costs.sum_parts.Given as goal

abbrev pub invariant-loop-v : goal.invariant-loop-v
invariant-loop-v l = record {
  value : l.total ≡ sum_to l.v (λ v. least (at l.b v) (number_at l.reduced v));
  size : unsigned_abs l.total ≤ l.v * 16000;
}
