use Rattle.std.proofs.Common.{◌≡◌, ◌≤◌, ◌^◌, All, map, take}
use Rattle.std.specs.Int.RustNames.{unsigned_abs}
use Rattle.zero_one_rows.specs.Rows.{whole}
use Rattle.dual_bound.proofs.terms.terms_of.Given as goal

abbrev pub invariant-loop-var : goal.invariant-loop-var
invariant-loop-var l = record {
  vars : map (λ t. t.at) l.terms ≡ take l.var-index l.var-items;
  coefs : All (λ t. t.by ≡ (whole l.model).coef l.row t.at) l.terms;
  small : All (λ t. unsigned_abs t.by ≤ 2 ^ 17) l.terms;
}
