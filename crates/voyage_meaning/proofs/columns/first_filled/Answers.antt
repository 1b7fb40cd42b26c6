use Rattle.voyage_meaning.specs.Refusals.{IsFilledIn}
use Rattle.voyage_meaning.proofs.TierSides.{least_fore, decided, filled_in}
use Rattle.voyage_meaning.proofs.columns.first_filled.Goals as goal

pub returns-in-Some : goal.returns-in-Some
returns-in-Some c = least_fore c.args.ship.now (IsFilledIn c.args.ship.now c.args.plan.now c.args.place.now c.args.tier) c.args.place.now c.args.tier (filled_in c.args.ship.now c.args.plan.now c.args.place.now c.args.tier) c.in-Some.half c.in-Some.ensures.0 c.in-Some.ensures.1

pub returns-in-None : goal.returns-in-None
returns-in-None c = decided c.args.ship.now (IsFilledIn c.args.ship.now c.args.plan.now c.args.place.now c.args.tier) c.args.place.now c.args.tier (filled_in c.args.ship.now c.args.plan.now c.args.place.now c.args.tier) c.filled_side-in-None.result c.in-None.ensures c.filled_side-in-None.ensures
