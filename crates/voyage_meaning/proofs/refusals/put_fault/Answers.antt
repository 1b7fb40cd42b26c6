use Rattle.std.proofs.Common.{ℕ, Some, true}
use Rattle.std.specs.Prelude.{◌≡◌, slice_get}
use Rattle.stow_data.specs.declared.geometry.Place.{Place}
use Rattle.stow_data.specs.declared.cargoes.Container.{Container}
use Rattle.stow_data.specs.Ship.{FitsAt}
use Rattle.stowage_rules.specs.Faults.{OfHalf}
use Rattle.voyage_meaning.specs.Refusals.{OfPlace, IsShutOver, IsOpenUnder, IsFilledIn, IsWeakBelow}
use Rattle.voyage_meaning.proofs.CoversHold.{not_both}
use Rattle.voyage_meaning.proofs.Judged.{put_unsupported, put_none, contained, none_placed, least_placed, none_contained, least_contained}
use Rattle.voyage_meaning.proofs.refusals.put_fault.Goals as goal

pub returns-in-None : goal.returns-in-None
returns-in-None c =
    let number = c.c.view_is in
    let at = c.at.ensures in
    let set = c.if-not-at.false in
    let on_quay : slice_get c.args.quay.now c.args.c ≡ Some true = cc in
    put_none c.args.ship.now c.args.cargo.now (record { plan = c.args.plan.now; quay = c.args.quay.now; off = c.args.off.now }) c.args.c c.args.p
    (not_both c.args.quay.now c.args.c on_quay)
    (λ x. contained c.args.cargo.now c.args.c c.container-container.result.now (λ (z : Container). FitsAt c.args.ship.now c.args.p z.long z.reefer → ⊥) c.container-container.ensures x (c.fits.ensures.0 c.if-not-fits.false))
    (none_placed c.args.ship.now c.args.p c.place-place.result (λ (z : Place) (k : ℕ). IsShutOver c.args.ship.now c.args.off.now z.stack k) c.place-place.ensures c.in_default.ensures)
    (none_placed c.args.ship.now c.args.p c.place-place.result (λ (z : Place) (k : ℕ). IsOpenUnder c.args.ship.now c.args.off.now z.stack k) c.place-place.ensures c.in_default-open_under.ensures)
    (none_placed c.args.ship.now c.args.p c.place-place.result (λ (z : Place) (h : ℕ). OfHalf c.args.ship.now (IsFilledIn c.args.ship.now c.args.plan.now z z.tier) h) c.place-place.ensures c.in_default-first_filled.ensures)
    (none_contained c.args.cargo.now c.args.c c.container-container.result.now (λ (y : Container) (h : ℕ). OfPlace c.args.ship.now (λ z. OfHalf c.args.ship.now (IsWeakBelow c.args.ship.now c.args.cargo.now c.args.plan.now z y.long) h) c.args.p) c.container-container.ensures
    (none_placed c.args.ship.now c.args.p c.place-place.result (λ (z : Place) (h : ℕ). OfHalf c.args.ship.now (IsWeakBelow c.args.ship.now c.args.cargo.now c.args.plan.now z c.container-container.result.now.long) h) c.place-place.ensures c.in-None.ensures))

pub returns-in-Some-first_weak_below : goal.returns-in-Some-first_weak_below
returns-in-Some-first_weak_below c =
    let number = c.c.view_is in
    let at = c.at.ensures in
    let set = c.if-not-at.false in
    let on_quay : slice_get c.args.quay.now c.args.c ≡ Some true = cc in
    put_unsupported c.args.ship.now c.args.cargo.now (record { plan = c.args.plan.now; quay = c.args.quay.now; off = c.args.off.now }) c.args.c c.args.p c.in-Some-first_weak_below.half
    (not_both c.args.quay.now c.args.c on_quay)
    (λ x. contained c.args.cargo.now c.args.c c.container-container.result.now (λ (z : Container). FitsAt c.args.ship.now c.args.p z.long z.reefer → ⊥) c.container-container.ensures x (c.fits.ensures.0 c.if-not-fits.false))
    (none_placed c.args.ship.now c.args.p c.place-place.result (λ (z : Place) (k : ℕ). IsShutOver c.args.ship.now c.args.off.now z.stack k) c.place-place.ensures c.in_default.ensures)
    (none_placed c.args.ship.now c.args.p c.place-place.result (λ (z : Place) (k : ℕ). IsOpenUnder c.args.ship.now c.args.off.now z.stack k) c.place-place.ensures c.in_default-open_under.ensures)
    (none_placed c.args.ship.now c.args.p c.place-place.result (λ (z : Place) (h : ℕ). OfHalf c.args.ship.now (IsFilledIn c.args.ship.now c.args.plan.now z z.tier) h) c.place-place.ensures c.in_default-first_filled.ensures)
    (least_contained c.args.cargo.now c.args.c c.container-container.result.now (λ (y : Container) (h : ℕ). OfPlace c.args.ship.now (λ z. OfHalf c.args.ship.now (IsWeakBelow c.args.ship.now c.args.cargo.now c.args.plan.now z y.long) h) c.args.p) c.in-Some-first_weak_below.half c.container-container.ensures
    (least_placed c.args.ship.now c.args.p c.place-place.result (λ (z : Place) (h : ℕ). OfHalf c.args.ship.now (IsWeakBelow c.args.ship.now c.args.cargo.now c.args.plan.now z c.container-container.result.now.long) h) c.in-Some-first_weak_below.half c.place-place.ensures c.in-Some-first_weak_below.ensures))
