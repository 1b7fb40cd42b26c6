use Rattle.std.proofs.Common.{◌-◌}
use Rattle.voyage_meaning.specs.Refusals.{IsWeakBelow}
use Rattle.voyage_meaning.proofs.TierSides.{least_fore, decided, weak_in}
use Rattle.voyage_meaning.proofs.columns.first_weak_below.Goals as goal

pub returns-in-Some : goal.returns-in-Some
returns-in-Some c = least_fore c.args.ship.now (IsWeakBelow c.args.ship.now c.args.cargo.now c.args.plan.now c.args.place.now c.args.long) c.args.place.now (c.args.place.now.tier - 1) (weak_in c.args.ship.now c.args.cargo.now c.args.plan.now c.args.place.now c.args.long) c.in-Some.half c.in-Some.ensures.0 c.in-Some.ensures.1

pub returns-in-None : goal.returns-in-None
returns-in-None c = decided c.args.ship.now (IsWeakBelow c.args.ship.now c.args.cargo.now c.args.plan.now c.args.place.now c.args.long) c.args.place.now (c.args.place.now.tier - 1) (weak_in c.args.ship.now c.args.cargo.now c.args.plan.now c.args.place.now c.args.long) c.weak_side-in-None.result c.in-None.ensures c.weak_side-in-None.ensures
