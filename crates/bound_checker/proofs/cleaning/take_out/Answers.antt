use Rattle.std.proofs.Common.{rules, arith, SFits, w64, ◌≡◌, ◌≤◌, ◌^◌, ◌∙◌, ap, subst, ℕ, pos, ◌+ℤ◌}
use Rattle.std.proofs.lemmas.Int.{to_z-of_z}
use Rattle.proof_trees.specs.Multipliers.{amount_of}
use Rattle.certificate.specs.Entries.{same_row}
use Rattle.bound_checker.proofs.Multiplied.{amount_low}
use Rattle.bound_checker.proofs.Raising.{named}
use Rattle.bound_checker.proofs.TakingOut.{without_none, without_some}
use Rattle.bound_checker.proofs.cleaning.take_out.Goals as goal

pub returns-then-amount-eq0-clause-out : goal.returns-then-amount-eq0-clause-out
returns-then-amount-eq0-clause-out c = λ ms priced is. without_none c.args.model.now c.args.zero.now ms c.args.row.now c.args.costs.now priced (omega (arith, is, c.if-amount-eq0.true))

pub turned-requires : goal.turned-requires
turned-requires c = let p = c.requires.priced in subst (λ (n : ℕ). n ≤ 2 ^ 40) p.2 (amount_low c.args.model.now p.0 c.args.row.now p.1.small)

pub add_row-requires-clause-row : goal.add_row-requires-clause-row
add_row-requires-clause-row c =
    let p = c.requires.priced in
    let is : amount_of same_row p.0 c.args.row.now ≡ c.args.amount = p.2 in
    named c.args.model.now p.0 c.args.row.now p.1.small (omega (arith, c.if-amount-eq0.false))

pub returns-clause-out : goal.returns-clause-out
returns-clause-out c = λ ms priced is.
    let f : SFits w64 c.turned.result = search rules in
    let sum : pos (amount_of same_row ms c.args.row.now) +ℤ c.turned.result ≡ pos 0 = ap (λ (n : ℕ). pos n +ℤ c.turned.result) is ∙ c.turned.ensures.value in
    let out = simp to_z-of_z at c.in_ok-add_row.ensures.priced in
    without_some c.args.model.now c.args.zero.now ms c.args.row.now c.add_row.new.costs (out ms 0 priced sum (omega arith))
