use Rattle.std.proofs.Common.{ap, sym, subst, ◌∙◌, List, ℕ}
use Rattle.zero_one_rows.specs.declared.program.Row.{Row}
use Rattle.proof_trees.specs.Multipliers.{amount_of}
use Rattle.certificate.specs.Entries.{same_row}
use Rattle.dual_bound.specs.Costs.{Priced}
use Rattle.bound_checker.proofs.sums.Sums.put_aside.Goals as goal

pub returns-clause-aside : goal.returns-clause-aside
returns-clause-aside c = λ m b ms h. record {
  amounts = λ r. ap (λ (es : List (Row × ℕ)). amount_of same_row es r) c.replace.ensures.value ∙ h.amounts r;
  priced = subst (Priced m b ms) (sym c.replace-2.ensures.value) h.priced;
}
