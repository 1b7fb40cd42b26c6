use Rattle.std.proofs.Common.{sym, subst, ap, ◌∙◌}
use Rattle.std.specs.Prelude.{map}
use Rattle.std.specs.List.{enumerate_from}
use Rattle.stow_data.specs.Shipment.{IsCargo}
use Rattle.bookings.specs.BookedCargo.{container_of}
use Rattle.bookings.proofs.CargoLaws.{cargo_has_rules, same_cargo}
use Rattle.bookings.proofs.cargo.cargo_of.Goals as goal

pub new-requires : goal.new-requires
new-requires c =
    let same = same_cargo c.args.ship.now c.args.bookings.now c.in_ok-rotation.rotation c.in_ok-tariff.tariff c.in_ok-containers.containers c.in_ok-arrival.arrival (c.in_ok-rotation.ensures ∙ c.as_slice.ensures) c.in_ok-tariff.ensures (c.in_ok-containers.ensures ∙ ap (λ bs. map container_of (enumerate_from 0 bs)) c.as_slice-2.ensures) c.in_ok-arrival.ensures in
    subst IsCargo (sym same) (cargo_has_rules c.args.ship.now c.args.bookings.now c.requires)
