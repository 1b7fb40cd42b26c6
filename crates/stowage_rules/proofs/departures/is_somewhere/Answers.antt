use Rattle.std.proofs.Common.{ℕ, arith, rules}
use Rattle.stowage_rules.specs.Plan.{Holds}
use Rattle.stow_data.proofs.Ranges.{any_from_Range, tells_any}
use Rattle.stowage_rules.proofs.PlansHold.{nowhere}
use Rattle.stowage_rules.proofs.departures.is_somewhere.Goals as goal

pub returns : goal.returns
returns c =
    let at : ℕ → Type 0 = λ n. Holds c.args.plan.now n c.args.c in
    tells_any at _ _ _ (any_from_Range _ _ _ _ at (λ n. at n → ⊥) c.any.ensures.ran (λ x q k. search rules) (λ x q k. search rules))
    (λ k h. (k, h)) (nowhere c.args.plan.now c.args.c c.places.result (omega (arith, c.requires)))
