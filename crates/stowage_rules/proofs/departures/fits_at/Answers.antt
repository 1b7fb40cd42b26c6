use Rattle.stowage_rules.proofs.PlansHold.{fits_here}
use Rattle.stowage_rules.proofs.departures.fits_at.Goals as goal

pub returns-else-c-len : goal.returns-else-c-len
returns-else-c-len c =
    fits_here c.args.ship.now c.args.cargo.now c.args.plan.now c.args.p c.in-Some.c c.container.result.now c.fits.result c.requires.inside c.in-Some.ensures c.container.ensures c.fits.ensures
