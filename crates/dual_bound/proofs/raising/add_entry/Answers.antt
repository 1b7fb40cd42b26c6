use Rattle.std.proofs.Common.{rules, arith, SFits, w64, pos, ◌+ℤ◌, ◌≡◌}
use Rattle.std.proofs.lemmas.Int.{to_z-of_z}
use borrow.Author.Differences.{ints}
use Rattle.proof_trees.specs.Multipliers.{amount_of}
use Rattle.certificate.specs.Entries.{same_row}
use Rattle.dual_bound.proofs.raising.add_entry.Goals as goal

pub returns : goal.returns
returns c = λ ms priced none.
    let s : SFits w64 c.signed.result = search rules in
    let sum : pos (amount_of same_row ms c.args.row.now) +ℤ c.signed.result ≡ pos c.args.amount = omega (arith, ints, none, c.signed.ensures.value) in
    let added = simp to_z-of_z at c.add_amount.ensures.priced in
    added ms c.args.amount priced sum c.requires.amount
