use Rattle.std.proofs.Common.{◌≡◌, ◌<◌, List, ℕ, length, sym, subst}
use Rattle.std.specs.Prelude.{Ok}
use Rattle.baplie.specs.declared.parts.CellGroup.{CellGroup}
use Rattle.arrival_plan.specs.Settled.{groups_of, told}
use Rattle.plan_files.specs.DepartureFile.{AreArrived}
use Rattle.plan_files.proofs.Told.{same_rotation}
use Rattle.stow_cli.proofs.Messages.{have_arrived}
use Rattle.stow_cli.proofs.work.file_of.Goals as goal

pub departure_text-requires-clause-arrived : goal.departure_text-requires-clause-arrived
departure_text-requires-clause-arrived c = subst AreArrived (sym c.arrived_groups.ensures) (have_arrived c.args.v.now.message c.requires.booked.read)

pub departure_text-requires-clause-cargo : goal.departure_text-requires-clause-cargo
departure_text-requires-clause-cargo c = subst (λ (gs : List CellGroup). told c.args.v.now.ship c.args.v.now.bookings gs ≡ Ok c.args.v.now.cargo) (sym c.arrived_groups.ensures) c.requires.booked.settled.0

pub departure_text-requires-clause-departs : goal.departure_text-requires-clause-departs
departure_text-requires-clause-departs c = subst (λ (ports : List (List ℕ)). c.args.call < length ports) (same_rotation c.args.v.now.ship c.args.v.now.bookings (groups_of c.args.v.now.message) c.args.v.now.cargo c.requires.booked.settled.0) c.requires.departs
