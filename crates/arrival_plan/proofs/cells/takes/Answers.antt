use Rattle.std.proofs.Common.{false}
use Rattle.stow_data.specs.Plans.{place_at}
use Rattle.stow_data.proofs.Fitting.{fits_value}
use Rattle.stow_data.proofs.PlanLookups.{is_place}
use Rattle.arrival_plan.proofs.cells.takes.Goals as goal

pub returns : goal.returns
returns c = fits_value c.args.ship.now c.args.p (place_at c.args.ship.now c.args.p) c.args.long false c.fits.result (is_place c.args.ship.now c.args.p c.requires) c.fits.ensures
