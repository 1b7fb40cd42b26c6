use Rattle.std.proofs.Common.{◌≡◌, ◌≤◌, ◌*◌, pos}
use Rattle.proof_trees.specs.Program.{sum_to, where_set}
use Rattle.zero_one_rows.specs.Rows.{whole}
use Rattle.partial_plan.specs.Full.{ones}
use Rattle.partial_plan.proofs.full.cost_of.Given as goal

abbrev pub invariant-loop-v : goal.invariant-loop-v
invariant-loop-v l = record {
  value : pos l.total ≡ sum_to l.v (λ v. where_set (ones l.b v) ((whole l.model).cost v));
  size : l.total ≤ l.v * 1000;
}
