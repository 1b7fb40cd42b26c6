use Rattle.std.proofs.Common.{rules, SFits, w64, ◌≤◌, ◌^◌, ◌∙◌, ap, sym, subst, pos, ℕ}
use Rattle.std.proofs.lemmas.Int.{to_z-of_z}
use Rattle.dual_bound.proofs.Placing.{amount_there_is}
use Rattle.dual_bound.proofs.multipliers.Multipliers.at.Goals as goal

pub returns-clause-value : goal.returns-clause-value
returns-clause-value c =
    let f : SFits w64 c.signed.result = search rules in
    simp to_z-of_z (c.signed.ensures.value ∙ ap pos (c.amount.ensures.value ∙ amount_there_is c.args.self.now c.args.r.now c.place.result (sym c.place.ensures.is)))

pub returns-clause-size : goal.returns-clause-size
returns-clause-size c = subst (λ (n : ℕ). n ≤ 2 ^ 40) (c.amount.ensures.value ∙ amount_there_is c.args.self.now c.args.r.now c.place.result (sym c.place.ensures.is)) c.amount.ensures.size
