use Rattle.std.proofs.Common.{◌≡◌, ℕ, List, ◌++◌, length, take, None}
use Rattle.zero_one_rows.specs.Variables.{variables}
use Rattle.zero_one_rows.specs.Rows.{whole}
use Rattle.proof_trees.specs.Boxes.{tightened}
use Rattle.partial_plan.specs.Fixing.{Fixes}
use Rattle.bound_checker.specs.Faults.{step_fault}
use Rattle.bound_checker.proofs.steps.tighten_all.Given as goal

abbrev pub invariant-loop-row : goal.invariant-loop-row
invariant-loop-row l = record {
  rows : l.rows ≡ l.fn.rows;
  len : length l.b ≡ length (variables l.model);
  faultless : step_fault (whole l.model) l.node (take l.row-index l.steps) ≡ None;
  tightened : l.b ≡ tightened (whole l.model) l.fn.b (take l.row-index l.steps);
  noted : (xs : List ℕ) × (l.undo ≡ l.fn.undo ++ xs) × Fixes l.fn.b l.b xs;
}
