use Rattle.std.proofs.Common.{rules, arith, ◌≡◌, ◌<◌, ◌≤◌, ◌^◌, ℕ, List, length, Some, pos, ◌+ℤ◌, SFits, w64, refl, sym, subst, ◌∙◌, ap}
use Rattle.std.proofs.lemmas.Int.{to_z-of_z}
use Rattle.std.proofs.lemmas.Option.{slice_get_within}
use Rattle.zero_one_rows.specs.Counted.{all_rows}
use Rattle.proof_trees.specs.Multipliers.{amount_of, with_amount}
use Rattle.certificate.specs.Entries.{same_row}
use Rattle.dual_bound.specs.Adding.{in_range}
use Rattle.dual_bound.proofs.Multiplied.{raised_some, raised_none}
use Rattle.event_search.proofs.Raising.{amount_here, amount_small, raised_tally}
use Rattle.event_search.proofs.tally.Tally.raise.Goals as goal

pub changed-requires : goal.changed-requires
changed-requires c =
    let m = c.args.model.now in
    let some = c.requires.some in
    let is : c.at.result ≡ amount_of same_row some.0 c.args.raise.now.row = amount_here m some.0 c.args.self.now c.args.raise.now.row c.number_of-k.result c.at.result some.1 c.number_of-k.ensures c.at.ensures in
    subst (λ (n : ℕ). n ≤ 2 ^ 40) (sym is) (amount_small m some.0 c.args.self.now c.args.raise.now.row some.1)

pub returns-in_default-clause-follows : goal.returns-in_default-clause-follows
returns-in_default-clause-follows c = λ ms t.
    let r = c.args.raise.now in
    let a : SFits w64 r.amount = search rules in
    let is : c.at.result ≡ amount_of same_row ms r.row = amount_here c.args.model.now ms c.args.self.now r.row c.number_of-k.result c.at.result t c.number_of-k.ensures c.at.ensures in
    let told : c.changed.result ≡ in_range (pos c.at.result +ℤ r.amount) = simp to_z-of_z at c.changed.ensures in
    raised_none ms r.row r.amount (ap (λ (n : ℕ). in_range (pos n +ℤ r.amount)) (sym is) ∙ (sym told ∙ c.in_default.is))

pub set-requires : goal.set-requires
set-requires c =
    let lt : c.number_of-k.result < length (all_rows c.args.model.now) = slice_get_within (all_rows c.args.model.now) c.number_of-k.result c.args.raise.now.row c.number_of-k.ensures in
    let len : length c.add.new.self.amounts ≡ length c.args.self.now.amounts = ap (λ (xs : List ℕ). length xs) c.add.ensures.amounts in
    omega (arith, lt, len, c.requires.some.1.sized.rows)

pub returns-clause-follows : goal.returns-clause-follows
returns-clause-follows c = λ ms t.
    let r = c.args.raise.now in
    let a : SFits w64 r.amount = search rules in
    let is : c.at.result ≡ amount_of same_row ms r.row = amount_here c.args.model.now ms c.args.self.now r.row c.number_of-k.result c.at.result t c.number_of-k.ensures c.at.ensures in
    let told : c.changed.result ≡ in_range (pos c.at.result +ℤ r.amount) = simp to_z-of_z at c.changed.ensures in
    let stays : in_range (pos (amount_of same_row ms r.row) +ℤ r.amount) ≡ Some c.in-Some.amount = ap (λ (n : ℕ). in_range (pos n +ℤ r.amount)) (sym is) ∙ (sym told ∙ c.in-Some.is) in (
      with_amount same_row ms r.row c.in-Some.amount,
      raised_some ms r.row r.amount c.in-Some.amount stays,
      raised_tally c.args.model.now ms r c.args.self.now c.add.new.self _ c.number_of-k.result c.in-Some.amount c.number_of-k.ensures c.requires.row stays c.add.ensures.adds c.add.ensures.amounts c.set.ensures refl refl t,
    )
