use Rattle.std.proofs.Common.{rules, ◌≡◌, ◌∙◌, ap, sym, SFits, w64, ℕ, Some, None, pos, ◌+ℤ◌, refl}
use Rattle.std.proofs.lemmas.Int.{to_z-of_z}
use Rattle.zero_one_rows.specs.declared.program.Row.{Row}
use Rattle.proof_trees.specs.Multipliers.{amount_of, with_amount}
use Rattle.certificate.specs.Entries.{same_row}
use Rattle.dual_bound.specs.Adding.{in_range}
use Rattle.dual_bound.proofs.Placing.{amount_there_is}
use Rattle.dual_bound.proofs.Multiplied.{raised_none, raised_some, adds_nothing}
use Rattle.dual_bound.proofs.multipliers.Multipliers.add.Goals as goal

pub returns-in_default : goal.returns-in_default
returns-in_default c =
    let b : SFits w64 c.args.amount = search rules in
    let a : c.amount.result ≡ amount_of same_row c.args.self.now c.args.r.now = c.amount.ensures.value ∙ amount_there_is c.args.self.now c.args.r.now c.place-place.result (sym c.place-place.ensures.is) in
    let e : in_range (pos (amount_of same_row c.args.self.now c.args.r.now) +ℤ c.args.amount) ≡ None = ap (λ (n : ℕ). in_range (pos n +ℤ c.args.amount)) (sym a) ∙ sym (simp to_z-of_z at c.changed.ensures) ∙ c.in_default.is in
    (raised_none c.args.self.now c.args.r.now c.args.amount e, refl)

pub returns-in_err-copy_of : goal.returns-in_err-copy_of
returns-in_err-copy_of c =
    let b : SFits w64 c.args.amount = search rules in
    let a : c.amount.result ≡ amount_of same_row c.args.self.now c.args.r.now = c.amount.ensures.value ∙ amount_there_is c.args.self.now c.args.r.now c.place-place.result (sym c.place-place.ensures.is) in
    let e : in_range (pos (amount_of same_row c.args.self.now c.args.r.now) +ℤ c.args.amount) ≡ Some c.in-Some.sum = ap (λ (n : ℕ). in_range (pos n +ℤ c.args.amount)) (sym a) ∙ sym (simp to_z-of_z at c.changed.ensures) ∙ c.in-Some.is in
    adds_nothing _ _ _ (raised_some c.args.self.now c.args.r.now c.args.amount c.in-Some.sum e) refl _ c.from_residual.ensures.1

pub returns-in_err-give : goal.returns-in_err-give
returns-in_err-give c =
    let b : SFits w64 c.args.amount = search rules in
    let a : c.amount.result ≡ amount_of same_row c.args.self.now c.args.r.now = c.amount.ensures.value ∙ amount_there_is c.args.self.now c.args.r.now c.place-place.result (sym c.place-place.ensures.is) in
    let e : in_range (pos (amount_of same_row c.args.self.now c.args.r.now) +ℤ c.args.amount) ≡ Some c.in-Some.sum = ap (λ (n : ℕ). in_range (pos n +ℤ c.args.amount)) (sym a) ∙ sym (simp to_z-of_z at c.changed.ensures) ∙ c.in-Some.is in
    adds_nothing _ _ _ (raised_some c.args.self.now c.args.r.now c.args.amount c.in-Some.sum e) c.in_err-give.ensures _ c.from_residual-in_err-give.ensures.1

pub returns : goal.returns
returns c =
    let b : SFits w64 c.args.amount = search rules in
    let a : c.amount.result ≡ amount_of same_row c.args.self.now c.args.r.now = c.amount.ensures.value ∙ amount_there_is c.args.self.now c.args.r.now c.place-place.result (sym c.place-place.ensures.is) in
    let e : in_range (pos (amount_of same_row c.args.self.now c.args.r.now) +ℤ c.args.amount) ≡ Some c.in-Some.sum = ap (λ (n : ℕ). in_range (pos n +ℤ c.args.amount)) (sym a) ∙ sym (simp to_z-of_z at c.changed.ensures) ∙ c.in-Some.is in
    let f : c.in_ok-copy_of.field-0 ≡ c.args.r.now = search rules in
    let g : c.give.new.self ≡ with_amount same_row c.args.self.now c.in_ok-copy_of.field-0 c.in-Some.sum = search rules in
    raised_some c.args.self.now c.args.r.now c.args.amount c.in-Some.sum e ∙ ap Some (ap (λ (r : Row). with_amount same_row c.args.self.now r c.in-Some.sum) (sym f) ∙ sym g)
