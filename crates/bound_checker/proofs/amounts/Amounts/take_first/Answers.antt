use Rattle.std.proofs.Common.{rules, ◌≡◌, ◌∙◌, ap, cond, ℕ, List}
use Rattle.zero_one_rows.specs.declared.program.Row.{Row}
use Rattle.proof_trees.specs.Multipliers.{amount_of}
use Rattle.certificate.specs.Entries.{same_row}
use Rattle.bound_checker.proofs.Look.{amount_out, if_some_other}
use Rattle.bound_checker.proofs.amounts.Amounts.take_first.Goals as goal

pub returns-clause-rest : goal.returns-clause-rest
returns-clause-rest c =
    let d : c.self.inside.by_row.entries ≡ c.args.self.now = search rules in
    if_some_other _ _ (λ p h r. amount_out c.self.inside.by_row.entries c.pop_first.new.self.entries p.0 r (h.0 r) ∙ ap (λ (es : List (Row × ℕ)). cond (same_row p.0 r) 0 (amount_of same_row es r)) d) c.pop_first.result c.pop_first.ensures.updates
