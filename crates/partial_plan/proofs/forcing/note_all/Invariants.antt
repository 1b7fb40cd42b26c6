use Rattle.std.proofs.Common.{◌≡◌, ℕ, List, ◌++◌, length, take}
use Rattle.std.specs.Prelude.{nat_eq}
use Rattle.std.specs.List.{list_any}
use Rattle.zero_one_rows.specs.Variables.{variables}
use Rattle.zero_one_rows.specs.Rows.{whole}
use Rattle.partial_plan.specs.Fixing.{Fixes}
use Rattle.partial_plan.proofs.Walking.{Partly}
use Rattle.partial_plan.proofs.forcing.note_all.Given as goal

abbrev pub invariant-loop-x : goal.invariant-loop-x
invariant-loop-x l = record {
  len : length l.b ≡ length (variables l.model);
  partly : Partly (λ v. list_any (nat_eq v) (take l.x-index l.vars)) l.slack (λ v. (whole l.model).coef l.r v) (length (variables l.model)) l.fn.b l.b;
  noted : (xs : List ℕ) × (l.undo ≡ l.fn.undo ++ xs) × Fixes l.fn.b l.b xs;
}
