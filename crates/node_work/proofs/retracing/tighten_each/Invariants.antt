use Rattle.std.proofs.Common.{◌≡◌, ℕ, List, ◌++◌, drop}
use Rattle.zero_one_rows.specs.Rows.{whole}
use Rattle.proof_trees.specs.Boxes.{tightened}
use Rattle.partial_plan.specs.Fixing.{Fixes}
use Rattle.node_work.proofs.retracing.tighten_each.Given as goal

abbrev pub invariant-loop-row : goal.invariant-loop-row
invariant-loop-row l = record {
  same : l.kept.voyage ≡ l.fn.kept.voyage;
  rest : tightened (whole l.model) l.kept.known (drop l.row-index l.steps) ≡ tightened (whole l.model) l.fn.kept.known l.steps;
  noted : (xs : List ℕ) × (l.kept.undo ≡ l.fn.kept.undo ++ xs) × Fixes l.fn.kept.known l.kept.known xs;
}
