use Rattle.std.proofs.Common.{rules, arith, SFits, w64, ◌≡◌, ◌≤◌, ◌^◌, ◌∙◌, ap, sym, subst, refl, true, false, ℕ, ℤ, Option, Some, Result, Ok, Err, OnOk, OnErr, pos, ◌+ℤ◌}
use Rattle.std.specs.Result.{is_err}
use Rattle.std.specs.Int.RustNames.{unsigned_abs}
use Rattle.std.proofs.lemmas.Int.{to_z-of_z}
use borrow.Author.Differences.{ints}
use Rattle.stow_data.specs.declared.list.NoMemory.{NoMemory}
use Rattle.zero_one_rows.specs.declared.program.Row.{Row}
use Rattle.proof_trees.specs.Multipliers.{Multipliers, amount_of, with_amount}
use Rattle.certificate.specs.Entries.{same_row}
use Rattle.dual_bound.specs.declared.costs.Costs.{Costs}
use Rattle.dual_bound.specs.declared.multipliers.AddNo.TheVariants.{NoMemory as Wanting}
use Rattle.dual_bound.specs.Adding.{in_range}
use Rattle.dual_bound.specs.Costs.{Priced}
use Rattle.dual_bound.proofs.Placing.{amount_there_is, still_inside}
use Rattle.dual_bound.proofs.Multiplied.{in_range_some, raised_none, raised_some, adds_nothing}
use Rattle.dual_bound.proofs.changing.change_kept.Goals as goal

by_low : (a n : ℕ) (by : ℤ) → pos a +ℤ by ≡ pos n → a ≤ 2 ^ 40 → n ≤ 2 ^ 40 → unsigned_abs by ≤ 2 ^ 40
by_low a n by e h k = omega (arith, ints)

from_ok : (P : Type 0) (r : Result (Unit {0}) NoMemory) → is_err r ≡ false → OnOk r P → P
from_ok P (Ok u) e h = h
from_ok P (Err n) e h = absurd (let bad : ⊥ = cc in bad)

from_err : (P : Type 0) (r : Result (Unit {0}) NoMemory) → is_err r ≡ true → OnErr r P → P
from_err P (Ok u) e h = absurd (let bad : ⊥ = cc in bad)
from_err P (Err n) e h = h

-- what the place, the amount there and the sum tell
in_range_of : (ms : Multipliers Row) (r : Row) (old : ℕ) (by : ℤ) (o : Option ℕ) → old ≡ amount_of same_row ms r → o ≡ in_range (pos old +ℤ by) → in_range (pos (amount_of same_row ms r) +ℤ by) ≡ o
in_range_of ms r old by o e h = ap (λ (n : ℕ). in_range (pos n +ℤ by)) (sym e) ∙ sym h

pub give-requires-clause-amount : goal.give-requires-clause-amount
give-requires-clause-amount c =
    let b : SFits w64 c.args.amount = search rules in
    let e : in_range (pos c.amount-old.result +ℤ c.args.amount) ≡ Some c.in-Some.sum = sym (simp to_z-of_z at c.changed.ensures) ∙ c.in-Some.is in
    (in_range_some (pos c.amount-old.result +ℤ c.args.amount) c.in-Some.sum e).1

pub add_amount-requires-clause-by : goal.add_amount-requires-clause-by
add_amount-requires-clause-by c =
    let b : SFits w64 c.args.amount = search rules in
    let e : in_range (pos c.amount-old.result +ℤ c.args.amount) ≡ Some c.in-Some.sum = sym (simp to_z-of_z at c.changed.ensures) ∙ c.in-Some.is in
    let p = in_range_some (pos c.amount-old.result +ℤ c.args.amount) c.in-Some.sum e in
    simp to_z-of_z (by_low c.amount-old.result c.in-Some.sum c.args.amount p.0 c.amount-old.ensures.size p.1)

pub take_back-requires-clause-inside : goal.take_back-requires-clause-inside
take_back-requires-clause-inside c =
    let g : c.give.new.self ≡ with_amount same_row c.args.m.now c.in_ok-copy_of.field-0 c.in-Some.sum = search rules in
    still_inside c.args.m.now c.give.new.self c.in_ok-copy_of.field-0 c.in-Some.sum c.place-place.result g c.place-place.ensures.inside

pub returns-in_default-clause-adds : goal.returns-in_default-clause-adds
returns-in_default-clause-adds c =
    let b : SFits w64 c.args.amount = search rules in
    let a : c.amount-old.result ≡ amount_of same_row c.args.m.now c.args.row.now = c.amount-old.ensures.value ∙ amount_there_is c.args.m.now c.args.row.now c.place-place.result (sym c.place-place.ensures.is) in
    (raised_none c.args.m.now c.args.row.now c.args.amount (in_range_of c.args.m.now c.args.row.now c.amount-old.result c.args.amount c.changed.result a (simp to_z-of_z at c.changed.ensures) ∙ c.in_default.is), refl)

pub returns-in_err-copy_of-clause-adds : goal.returns-in_err-copy_of-clause-adds
returns-in_err-copy_of-clause-adds c =
    let b : SFits w64 c.args.amount = search rules in
    let a : c.amount-old.result ≡ amount_of same_row c.args.m.now c.args.row.now = c.amount-old.ensures.value ∙ amount_there_is c.args.m.now c.args.row.now c.place-place.result (sym c.place-place.ensures.is) in
    let e : in_range (pos (amount_of same_row c.args.m.now c.args.row.now) +ℤ c.args.amount) ≡ Some c.in-Some.sum = in_range_of c.args.m.now c.args.row.now c.amount-old.result c.args.amount c.changed.result a (simp to_z-of_z at c.changed.ensures) ∙ c.in-Some.is in
    adds_nothing _ _ _ (raised_some c.args.m.now c.args.row.now c.args.amount c.in-Some.sum e) refl _ c.from_residual.ensures.1

pub returns-in_err-give-clause-adds : goal.returns-in_err-give-clause-adds
returns-in_err-give-clause-adds c =
    let b : SFits w64 c.args.amount = search rules in
    let a : c.amount-old.result ≡ amount_of same_row c.args.m.now c.args.row.now = c.amount-old.ensures.value ∙ amount_there_is c.args.m.now c.args.row.now c.place-place.result (sym c.place-place.ensures.is) in
    let e : in_range (pos (amount_of same_row c.args.m.now c.args.row.now) +ℤ c.args.amount) ≡ Some c.in-Some.sum = in_range_of c.args.m.now c.args.row.now c.amount-old.result c.args.amount c.changed.result a (simp to_z-of_z at c.changed.ensures) ∙ c.in-Some.is in
    adds_nothing _ _ _ (raised_some c.args.m.now c.args.row.now c.args.amount c.in-Some.sum e) c.in_err-give.ensures _ c.from_residual-in_err-give.ensures.1

pub returns-then-is_err-clause-priced : goal.returns-then-is_err-clause-priced
returns-then-is_err-clause-priced c =
    let a : c.amount-old.result ≡ amount_of same_row c.args.m.now c.args.row.now = c.amount-old.ensures.value ∙ amount_there_is c.args.m.now c.args.row.now c.place-place.result (sym c.place-place.ensures.is) in
    let g : c.give.new.self ≡ with_amount same_row c.args.m.now c.in_ok-copy_of.field-0 c.in-Some.sum = search rules in
    let f : c.in_ok-copy_of.field-0 ≡ c.args.row.now = search rules in
    let back : c.take_back.new.self ≡ c.args.m.now = c.take_back.ensures c.args.m.now c.args.row.now c.in-Some.sum (g ∙ ap (λ (q : Row). with_amount same_row c.args.m.now q c.in-Some.sum) f) c.place-place.ensures.is a in
    let same : c.add_amount.new.costs ≡ c.args.costs.now = from_err (c.add_amount.new.costs ≡ c.args.costs.now) c.add_amount.result (sym c.is_err.ensures.value ∙ c.if-is_err.true) c.add_amount.ensures.refused in
    subst (λ (k : Costs). Priced c.args.model.now c.args.b.now c.take_back.new.self k) (sym same) (subst (λ (ms : Multipliers Row). Priced c.args.model.now c.args.b.now ms c.args.costs.now) (sym back) c.requires.priced)

pub returns-then-is_err-clause-adds : goal.returns-then-is_err-clause-adds
returns-then-is_err-clause-adds c =
    let b : SFits w64 c.args.amount = search rules in
    let a : c.amount-old.result ≡ amount_of same_row c.args.m.now c.args.row.now = c.amount-old.ensures.value ∙ amount_there_is c.args.m.now c.args.row.now c.place-place.result (sym c.place-place.ensures.is) in
    let e : in_range (pos (amount_of same_row c.args.m.now c.args.row.now) +ℤ c.args.amount) ≡ Some c.in-Some.sum = in_range_of c.args.m.now c.args.row.now c.amount-old.result c.args.amount c.changed.result a (simp to_z-of_z at c.changed.ensures) ∙ c.in-Some.is in
    let g : c.give.new.self ≡ with_amount same_row c.args.m.now c.in_ok-copy_of.field-0 c.in-Some.sum = search rules in
    let f : c.in_ok-copy_of.field-0 ≡ c.args.row.now = search rules in
    let back : c.take_back.new.self ≡ c.args.m.now = c.take_back.ensures c.args.m.now c.args.row.now c.in-Some.sum (g ∙ ap (λ (q : Row). with_amount same_row c.args.m.now q c.in-Some.sum) f) c.place-place.ensures.is a in
    adds_nothing _ _ _ (raised_some c.args.m.now c.args.row.now c.args.amount c.in-Some.sum e) back (Err Wanting) refl

pub returns-clause-priced : goal.returns-clause-priced
returns-clause-priced c =
    let b : SFits w64 c.args.amount = search rules in
    let a : c.amount-old.result ≡ amount_of same_row c.args.m.now c.args.row.now = c.amount-old.ensures.value ∙ amount_there_is c.args.m.now c.args.row.now c.place-place.result (sym c.place-place.ensures.is) in
    let e : in_range (pos (amount_of same_row c.args.m.now c.args.row.now) +ℤ c.args.amount) ≡ Some c.in-Some.sum = in_range_of c.args.m.now c.args.row.now c.amount-old.result c.args.amount c.changed.result a (simp to_z-of_z at c.changed.ensures) ∙ c.in-Some.is in
    let p = in_range_some (pos (amount_of same_row c.args.m.now c.args.row.now) +ℤ c.args.amount) c.in-Some.sum e in
    let g : c.give.new.self ≡ with_amount same_row c.args.m.now c.in_ok-copy_of.field-0 c.in-Some.sum = search rules in
    let f : c.in_ok-copy_of.field-0 ≡ c.args.row.now = search rules in
    let added = simp to_z-of_z at c.add_amount.ensures.priced in
    let priced : Priced c.args.model.now c.args.b.now (with_amount same_row c.args.m.now c.args.row.now c.in-Some.sum) c.add_amount.new.costs =
    from_ok (Priced c.args.model.now c.args.b.now (with_amount same_row c.args.m.now c.args.row.now c.in-Some.sum) c.add_amount.new.costs) c.add_amount.result (sym c.is_err.ensures.value ∙ c.if-is_err.false) (added c.args.m.now c.in-Some.sum c.requires.priced p.0 p.1) in
    subst (λ (ms : Multipliers Row). Priced c.args.model.now c.args.b.now ms c.add_amount.new.costs) (sym (g ∙ ap (λ (q : Row). with_amount same_row c.args.m.now q c.in-Some.sum) f)) priced

pub returns-clause-adds : goal.returns-clause-adds
returns-clause-adds c =
    let b : SFits w64 c.args.amount = search rules in
    let a : c.amount-old.result ≡ amount_of same_row c.args.m.now c.args.row.now = c.amount-old.ensures.value ∙ amount_there_is c.args.m.now c.args.row.now c.place-place.result (sym c.place-place.ensures.is) in
    let e : in_range (pos (amount_of same_row c.args.m.now c.args.row.now) +ℤ c.args.amount) ≡ Some c.in-Some.sum = in_range_of c.args.m.now c.args.row.now c.amount-old.result c.args.amount c.changed.result a (simp to_z-of_z at c.changed.ensures) ∙ c.in-Some.is in
    let g : c.give.new.self ≡ with_amount same_row c.args.m.now c.in_ok-copy_of.field-0 c.in-Some.sum = search rules in
    let f : c.in_ok-copy_of.field-0 ≡ c.args.row.now = search rules in
    raised_some c.args.m.now c.args.row.now c.args.amount c.in-Some.sum e ∙ ap Some (ap (λ (r : Row). with_amount same_row c.args.m.now r c.in-Some.sum) (sym f) ∙ sym g)
