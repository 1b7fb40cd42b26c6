use Rattle.std.proofs.Common.{arith, rules}
use Rattle.stowage_rules.specs.Places.{AboardAt}
use Rattle.stow_data.proofs.Ranges.{all_from_Range, tells_all}
use Rattle.stowage_rules.proofs.PlansHold.{all_aboard}
use Rattle.stowage_rules.proofs.departures.holds_aboard.Goals as goal

pub returns : goal.returns
returns c =
    let at = AboardAt c.args.cargo.now c.args.call c.args.plan.now in
    tells_all at _ _ _ (all_from_Range _ _ _ _ at (λ n. at n → ⊥) c.all.ensures.ran (λ x q k. search rules) (λ x q k. search rules))
    (all_aboard c.args.cargo.now c.args.call c.args.plan.now c.len.result (omega arith)) (λ h. h)
