use Rattle.std.proofs.Common.{[], refl, sym, subst}
use Rattle.std.specs.Prelude.{Ok}
use Rattle.stow_data.specs.Shipment.{Cargo}
use Rattle.arrival_plan.specs.Settled.{Settles}
use Rattle.voyage_files.proofs.Empty.{empty_settles}
use Rattle.voyage_files.proofs.arriving.comes_in_empty.Goals as goal

pub returns : goal.returns
returns c = record {
  same_message = refl;
  read = tt;
  settled = subst (λ (cargo : Cargo). Settles c.args.ship.now c.args.bookings.now [] (Ok cargo)) (sym c.in_ok-cargo.ensures) (empty_settles c.args.ship.now c.args.bookings.now c.requires);
  cargo_rules = c.obeys_rules.ensures;
}
