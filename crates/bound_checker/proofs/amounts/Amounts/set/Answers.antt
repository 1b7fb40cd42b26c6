use Rattle.std.proofs.Common.{rules, ◌≡◌, ◌∙◌, ap, cond, ℕ, List}
use Rattle.zero_one_rows.specs.declared.program.Row.{Row}
use Rattle.proof_trees.specs.Multipliers.{amount_of}
use Rattle.certificate.specs.Entries.{same_row}
use Rattle.bound_checker.proofs.Look.{amount_put}
use Rattle.bound_checker.proofs.amounts.Amounts.set.Goals as goal

pub returns : goal.returns
returns c = λ r.
    let d : c.self.inside.by_row.entries ≡ c.args.self.now = search rules in
    let e : c.in_ok-copy_of.field-0 ≡ c.args.row.now = search rules in
    amount_put c.self.inside.by_row.entries c.insert.new.self.entries c.in_ok-copy_of.field-0 r c.args.amount (c.in_ok-insert.ensures.updates.0 r)
    ∙ ap (λ (es : List (Row × ℕ)). cond (same_row c.in_ok-copy_of.field-0 r) c.args.amount (amount_of same_row es r)) d
    ∙ ap (λ (k : Row). cond (same_row k r) c.args.amount (amount_of same_row c.args.self.now r)) e
