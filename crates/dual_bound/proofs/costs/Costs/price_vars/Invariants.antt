use Rattle.std.proofs.Common.{◌≡◌, ◌+◌, ◌*◌, ◌≤◌, ◌^◌, length, map, ◌*ℤ◌}
use Rattle.std.specs.Int.RustNames.{unsigned_abs}
use Rattle.zero_one_rows.specs.Variables.{variables}
use Rattle.zero_one_rows.specs.Rows.{whole}
use Rattle.dual_bound.specs.Costs.{Gauged}
use Rattle.dual_bound.proofs.Summing.{Lost}
use Rattle.dual_bound.proofs.costs.Costs.price_vars.Given as goal

abbrev pub invariant-loop-term : goal.invariant-loop-term
invariant-loop-term l = record {
  right : l.self.right ≡ l.fn.self.right;
  gauged : Gauged l.model l.b l.self;
  value : unsigned_abs l.self.value ≤ 2 ^ 100 + l.term-index * 2 ^ 57;
  reduced : Lost (λ v. l.by *ℤ (whole l.model).coef l.row v) l.fn.self.reduced.items (map (λ t. t.at) l.terms) (length (variables l.model)) l.self.reduced.items l.term-index;
}
