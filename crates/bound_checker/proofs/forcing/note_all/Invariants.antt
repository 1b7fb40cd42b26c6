use Rattle.std.proofs.Common.{◌≡◌, ℕ, List, ◌++◌, length, take, map}
use Rattle.std.specs.Prelude.{nat_eq}
use Rattle.std.specs.List.{list_any}
use Rattle.zero_one_rows.specs.Variables.{variables}
use Rattle.zero_one_rows.specs.Rows.{whole}
use Rattle.partial_plan.specs.Fixing.{Fixes}
use Rattle.partial_plan.proofs.Walking.{Partly}
use Rattle.bound_checker.proofs.forcing.note_all.Given as goal

abbrev pub invariant-loop-term : goal.invariant-loop-term
invariant-loop-term l = record {
  len : length l.b ≡ length (variables l.model);
  partly : Partly (λ v. list_any (nat_eq v) (take l.term-index (map (λ t. t.at) l.terms))) l.slack (λ v. (whole l.model).coef l.row v) (length (variables l.model)) l.fn.b l.b;
  noted : (xs : List ℕ) × (l.undo ≡ l.fn.undo ++ xs) × Fixes l.fn.b l.b xs;
}
