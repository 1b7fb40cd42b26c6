use Rattle.std.specs.Prelude.{List, Bool}
use Rattle.plan_lifts.specs.Least.{IsLeastClosed}
use Rattle.plan_lifts.specs.Spread.{has, IsLeastSpread}
use Rattle.plan_lifts.proofs.LiftsHold.{least_closed, seeds_filled, then_ok}
use Rattle.plan_lifts.proofs.lifting.must_lift.Goals as goal

pub spread-requires-clause-filled : goal.spread-requires-clause-filled
spread-requires-clause-filled c = seeds_filled c.args.ship.now c.args.before.now (has c.in_ok-changed.changed) (has c.in_ok-seeds.seeds) (has c.in_ok-opened.opened) (has c.add_on_opened.new.set) c.in_ok-seeds.ensures.filled c.add_on_opened.ensures.adds

pub returns-clause-least : goal.returns-clause-least
returns-clause-least c = then_ok
    (λ (set : List Bool). IsLeastSpread c.args.ship.now c.args.before.now (has c.add_on_opened.new.set) (has set))
    (λ (set : List Bool). IsLeastClosed c.args.ship.now c.args.before.now c.args.after.now (has set))
    c.spread.result
    (λ set least. least_closed c.args.ship.now c.args.before.now c.args.after.now (has c.in_ok-changed.changed) (has c.in_ok-seeds.seeds) (has c.in_ok-opened.opened) (has c.add_on_opened.new.set) (has set) c.in_ok-changed.ensures.differ c.in_ok-seeds.ensures.filled c.in_ok-opened.ensures.opens c.add_on_opened.ensures.adds least)
    c.spread.ensures.least
