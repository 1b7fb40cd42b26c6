use Rattle.plan_lifts.specs.Spread.{has}
use Rattle.plan_lifts.proofs.Spreads.{spreads, spread_filled}
use Rattle.plan_lifts.proofs.Whole.{ship_is_divided}
use Rattle.plan_lifts.proofs.spreading.spread.Goals as goal

pub returns-clause-least : goal.returns-clause-least
returns-clause-least c = spreads c.args.ship.now c.args.plan.now (has c.args.seeds) (has c.spread_up.new.set) (has c.in_ok-opened.opened) (has c.add_on_opened.new.set) (ship_is_divided c.args.ship.now c.obeys_rules.ensures) c.spread_up.ensures.least c.in_ok-opened.ensures.opens c.add_on_opened.ensures.adds

pub returns-clause-filled : goal.returns-clause-filled
returns-clause-filled c = spread_filled c.args.ship.now c.args.plan.now (has c.args.seeds) (has c.add_on_opened.new.set) (spreads c.args.ship.now c.args.plan.now (has c.args.seeds) (has c.spread_up.new.set) (has c.in_ok-opened.opened) (has c.add_on_opened.new.set) (ship_is_divided c.args.ship.now c.obeys_rules.ensures) c.spread_up.ensures.least c.in_ok-opened.ensures.opens c.add_on_opened.ensures.adds) c.requires.filled
