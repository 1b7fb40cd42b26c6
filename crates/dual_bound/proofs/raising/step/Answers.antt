use Rattle.std.proofs.Common.{rules, arith, ◌≡◌, ◌≤◌, ◌+◌, ◌^◌, ◌∙◌, ap, sym, subst, SFits, w64, ℕ, [], ◌∷◌, ◌++◌, pos, ◌+ℤ◌, refl}
use Rattle.std.proofs.lemmas.Int.{to_z-of_z}
use borrow.Author.Differences.{ints}
use Rattle.zero_one_rows.specs.declared.program.Row.{Row}
use Rattle.zero_one_rows.specs.declared.program.Raise.{Raise}
use Rattle.proof_trees.specs.Multipliers.{Multipliers, amount_of, with_amount}
use Rattle.certificate.specs.Entries.{same_row}
use Rattle.dual_bound.specs.Costs.{Priced}
use Rattle.dual_bound.proofs.Placing.{amount_there_is, still_inside}
use Rattle.dual_bound.proofs.Raises.{raise_step}
use Rattle.dual_bound.proofs.raising.step.Goals as goal

pub give-requires-clause-amount : goal.give-requires-clause-amount
give-requires-clause-amount c =
    let a : c.amount-old.result ≡ amount_of same_row c.args.m.now c.args.rising.now.row = c.amount-old.ensures.value ∙ amount_there_is c.args.m.now c.args.rising.now.row c.place-place.result (sym c.place-place.ensures.is) in
    omega (arith, c.requires.rises.by.low)

pub take_back-requires-clause-inside : goal.take_back-requires-clause-inside
take_back-requires-clause-inside c =
    let g : c.give.new.self ≡ with_amount same_row c.args.m.now c.in_ok-copy_of.field-0 (c.amount-old.result + c.args.rising.now.more) = search rules in
    still_inside c.args.m.now c.give.new.self c.in_ok-copy_of.field-0 (c.amount-old.result + c.args.rising.now.more) c.place-place.result g c.place-place.ensures.inside

pub returns-then-is_err-clause-priced : goal.returns-then-is_err-clause-priced
returns-then-is_err-clause-priced c =
    let n : ℕ = c.amount-old.result + c.args.rising.now.more in
    let a : c.amount-old.result ≡ amount_of same_row c.args.m.now c.args.rising.now.row = c.amount-old.ensures.value ∙ amount_there_is c.args.m.now c.args.rising.now.row c.place-place.result (sym c.place-place.ensures.is) in
    let g : c.give.new.self ≡ with_amount same_row c.args.m.now c.in_ok-copy_of.field-0 n = search rules in
    let f : c.in_ok-copy_of.field-0 ≡ c.args.rising.now.row = search rules in
    let back : c.take_back.new.self ≡ c.args.m.now = c.take_back.ensures c.args.m.now c.args.rising.now.row n (g ∙ ap (λ (q : Row). with_amount same_row c.args.m.now q n) f) c.place-place.ensures.is a in
    subst (λ (ms : Multipliers Row). Priced c.args.model.now c.args.b.now ms c.args.costs.now) (sym back) c.requires.priced

pub returns-then-is_err-clause-refused : goal.returns-then-is_err-clause-refused
returns-then-is_err-clause-refused c =
    let n : ℕ = c.amount-old.result + c.args.rising.now.more in
    let a : c.amount-old.result ≡ amount_of same_row c.args.m.now c.args.rising.now.row = c.amount-old.ensures.value ∙ amount_there_is c.args.m.now c.args.rising.now.row c.place-place.result (sym c.place-place.ensures.is) in
    let g : c.give.new.self ≡ with_amount same_row c.args.m.now c.in_ok-copy_of.field-0 n = search rules in
    let f : c.in_ok-copy_of.field-0 ≡ c.args.rising.now.row = search rules in
    let p : c.note.new.raises ≡ c.args.raises.now = search rules in
    (c.take_back.ensures c.args.m.now c.args.rising.now.row n (g ∙ ap (λ (q : Row). with_amount same_row c.args.m.now q n) f) c.place-place.ensures.is a, p)

pub returns-clause-priced : goal.returns-clause-priced
returns-clause-priced c =
    let n : ℕ = c.amount-old.result + c.args.rising.now.more in
    let a : c.amount-old.result ≡ amount_of same_row c.args.m.now c.args.rising.now.row = c.amount-old.ensures.value ∙ amount_there_is c.args.m.now c.args.rising.now.row c.place-place.result (sym c.place-place.ensures.is) in
    let g : c.give.new.self ≡ with_amount same_row c.args.m.now c.in_ok-copy_of.field-0 n = search rules in
    let f : c.in_ok-copy_of.field-0 ≡ c.args.rising.now.row = search rules in
    let s : SFits w64 c.signed-by.result = search rules in
    let side : SFits w64 c.args.rising.now.right = search rules in
    let sum : pos (amount_of same_row c.args.m.now c.args.rising.now.row) +ℤ c.signed-by.result ≡ pos n = omega (arith, ints, a, c.signed-by.ensures.value) in
    let low : n ≤ 2 ^ 40 = omega (arith, a, c.requires.rises.by.low) in
    let added = simp to_z-of_z at c.add_row.ensures in
    subst (λ (ms : Multipliers Row). Priced c.args.model.now c.args.b.now ms c.add_row.new.self) (sym (g ∙ ap (λ (q : Row). with_amount same_row c.args.m.now q n) f)) (added c.args.m.now n c.requires.priced sum low)

pub returns-clause-raised : goal.returns-clause-raised
returns-clause-raised c =
    let n : ℕ = c.amount-old.result + c.args.rising.now.more in
    let a : c.amount-old.result ≡ amount_of same_row c.args.m.now c.args.rising.now.row = c.amount-old.ensures.value ∙ amount_there_is c.args.m.now c.args.rising.now.row c.place-place.result (sym c.place-place.ensures.is) in
    let g : c.give.new.self ≡ with_amount same_row c.args.m.now c.in_ok-copy_of.field-0 n = search rules in
    let f : c.in_ok-copy_of.field-0 ≡ c.args.rising.now.row = search rules in
    let s : SFits w64 c.signed-by.result = search rules in
    let raise : Raise = record { row = c.args.rising.now.row; amount = c.signed-by.result } in
    let p : c.note.new.raises ≡ c.args.raises.now ++ raise ∷ [] = search rules in
    let sum : n ≡ amount_of same_row c.args.m.now c.args.rising.now.row + c.args.rising.now.more = ap (λ (k : ℕ). k + c.args.rising.now.more) a in
    let low : n ≤ 2 ^ 40 = omega (arith, a, c.requires.rises.by.low) in
    raise_step c.args.model.now c.args.b.now c.args.m.now c.give.new.self c.args.raises.now c.note.new.raises raise c.args.rising.now.row c.args.rising.now.more n refl c.signed-by.ensures.value c.requires.rises.listed.row sum low c.requires.rises.by.much
    (g ∙ ap (λ (q : Row). with_amount same_row c.args.m.now q n) f) p
