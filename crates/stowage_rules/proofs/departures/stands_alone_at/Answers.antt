use Rattle.std.proofs.Common.{arith, rules}
use Rattle.stowage_rules.specs.Places.{StandsAlone}
use Rattle.stow_data.proofs.Ranges.{all_from_Range, tells_all}
use Rattle.stowage_rules.proofs.PlansHold.{alone_at}
use Rattle.stowage_rules.proofs.departures.stands_alone_at.Goals as goal

pub returns : goal.returns
returns c =
    let at = StandsAlone c.args.ship.now c.args.plan.now c.args.p in
    tells_all at _ _ _ (all_from_Range _ _ _ _ at (λ n. at n → ⊥) c.all.ensures.ran (λ x q k. search rules) (λ x q k. search rules))
    (alone_at c.args.ship.now c.args.plan.now c.args.p c.places.result (omega (arith, c.requires.each_place))) (λ h. h)
