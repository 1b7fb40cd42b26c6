use Rattle.std.proofs.Common.{arith, rules}
use Rattle.stowage_rules.specs.Places.{StandsAloneAt}
use Rattle.stow_data.proofs.Ranges.{all_from_Range, tells_all}
use Rattle.stowage_rules.proofs.PlansHold.{all_alone}
use Rattle.stowage_rules.proofs.departures.all_stand_alone.Goals as goal

pub returns : goal.returns
returns c =
    let at = StandsAloneAt c.args.ship.now c.args.plan.now in
    tells_all at _ _ _ (all_from_Range _ _ _ _ at (λ n. at n → ⊥) c.all.ensures.ran (λ x q k. search rules) (λ x q k. search rules))
    (all_alone c.args.ship.now c.args.plan.now c.places.result (omega (arith, c.requires))) (λ h. h)
