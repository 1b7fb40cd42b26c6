use Rattle.std.proofs.Common.{rules, ◌≡◌, ◌∙◌, ap, ℕ, Option, List}
use Rattle.std.specs.Prelude.{unwrap_or}
use Rattle.zero_one_rows.specs.declared.program.Row.{Row}
use Rattle.proof_trees.specs.Multipliers.{amount_of}
use Rattle.certificate.specs.Entries.{same_row}
use Rattle.bound_checker.proofs.Look.{amount_looked_up}
use Rattle.bound_checker.proofs.amounts.Amounts.at.Goals as goal

pub returns : goal.returns
returns c = let e : c.self.inside.by_row.entries ≡ c.args.self.now = search rules in
    c.unwrap_or.ensures ∙ ap (λ (o : Option ℕ). unwrap_or o 0) (c.copied.ensures ∙ c.get.ensures.value) ∙ amount_looked_up c.self.inside.by_row.entries c.args.row.now ∙ ap (λ (es : List (Row × ℕ)). amount_of same_row es c.args.row.now) e
