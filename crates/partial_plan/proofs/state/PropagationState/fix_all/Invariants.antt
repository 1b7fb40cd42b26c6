use Rattle.std.proofs.Common.{◌≡◌, ℕ, List, ◌++◌, length, take}
use Rattle.std.specs.Prelude.{nat_eq}
use Rattle.std.specs.List.{list_any}
use Rattle.zero_one_rows.specs.Variables.{variables}
use Rattle.zero_one_rows.specs.Rows.{whole}
use Rattle.partial_plan.specs.Fixing.{Fixes}
use Rattle.partial_plan.proofs.Walking.{Partly}
use Rattle.row_matrix.specs.Terms.{row_at, vars_in}
use Rattle.row_matrix.specs.Following.{ChangedRowsWait}
use Rattle.partial_plan.specs.PropagationState.{IsState}
use Rattle.partial_plan.proofs.state.PropagationState.fix_all.Given as goal

abbrev pub invariant-loop-term : goal.invariant-loop-term
invariant-loop-term l = record {
  state : IsState l.matrix l.self;
  partly : Partly (λ v. list_any (nat_eq v) (take l.term-index (vars_in l.terms))) l.slack (λ v. (whole l.matrix).coef (row_at l.matrix l.k) v) (length (variables l.matrix)) l.fn.self.b l.self.b;
  noted : (xs : List ℕ) × (l.self.undo.items ≡ l.fn.self.undo.items ++ xs) × Fixes l.fn.self.b l.self.b xs;
  marks : ChangedRowsWait l.matrix l.fn.self.slacks l.self.slacks;
}
