use Rattle.std.proofs.Common.{◌≡◌, length, nat_lt}
use Rattle.zero_one_rows.specs.Variables.{variables}
use Rattle.zero_one_rows.specs.Rows.{whole}
use Rattle.partial_plan.proofs.Walking.{Partly}
use Rattle.partial_plan.proofs.forcing.fix_all.Given as goal

abbrev pub invariant-loop-v : goal.invariant-loop-v
invariant-loop-v l = record {
  len : length l.b ≡ length (variables l.model);
  partly : Partly (λ v. nat_lt v l.v) l.slack (λ v. (whole l.model).coef l.r v) (length (variables l.model)) l.fn.b l.b;
}
