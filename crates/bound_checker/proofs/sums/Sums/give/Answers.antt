use Rattle.std.proofs.Common.{rules, SFits, w64, ◌≡◌, ◌≤◌, ◌^◌, subst, List, ℕ, ◌∙◌, ap, sym, cond, pos, ◌+ℤ◌}
use Rattle.std.proofs.lemmas.Int.{to_z-of_z}
use Rattle.zero_one_rows.specs.declared.program.Row.{Row}
use Rattle.proof_trees.specs.Multipliers.{amount_of}
use Rattle.certificate.specs.Entries.{same_row}
use Rattle.bound_checker.proofs.Raising.{amounts_low, carries_more}
use Rattle.bound_checker.proofs.sums.Sums.give.Goals as goal

pub difference-by-requires-clause-old : goal.difference-by-requires-clause-old
difference-by-requires-clause-old c =
    subst (λ (n : ℕ). n ≤ 2 ^ 40) (sym c.at.ensures) (amounts_low c.args.model.now c.args.b.now c.requires.carries.0 c.args.self.now c.requires.carries.1 c.args.row.now)

pub add_row-requires-clause-whole : goal.add_row-requires-clause-whole
add_row-requires-clause-whole c = c.requires.carries.1.whole

pub add_row-requires-clause-rows : goal.add_row-requires-clause-rows
add_row-requires-clause-rows c = c.requires.carries.1.rows

pub add_row-requires-clause-priced : goal.add_row-requires-clause-priced
add_row-requires-clause-priced c = (c.requires.carries.0, c.requires.carries.1.priced)

pub returns : goal.returns
returns c = λ ms carries.
    let b : SFits w64 c.difference-by.result = search rules in
    let same : c.add_row.new.self.amounts ≡ c.args.self.now.amounts = c.in_ok-count.ensures.amounts in
    let sum : pos (amount_of same_row ms c.args.row.now) +ℤ c.difference-by.result ≡ pos c.args.amount =
    ap (λ (n : ℕ). pos n +ℤ c.difference-by.result) (sym (carries.amounts c.args.row.now) ∙ sym c.at.ensures) ∙ c.difference-by.ensures.value in
    let priced = simp to_z-of_z at c.in_ok-count.ensures.priced in
    carries_more c.args.model.now c.args.b.now ms c.args.self.now carries c.args.row.now c.args.amount _
    (λ q. c.in_ok-set.ensures q ∙ ap (λ (es : List (Row × ℕ)). cond (same_row c.args.row.now q) c.args.amount (amount_of same_row es q)) same)
    (priced ms c.args.amount carries.priced sum c.requires.amount) c.add_row.ensures.blank c.add_row.ensures.rows
