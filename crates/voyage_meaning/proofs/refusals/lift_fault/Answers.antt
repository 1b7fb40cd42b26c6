use Rattle.std.proofs.Common.{◌+◌, ℕ, arith}
use Rattle.std.proofs.lemmas.Bool.{both_ways}
use Rattle.stow_data.specs.declared.geometry.Place.{Place}
use Rattle.stowage_rules.specs.Faults.{OfHalf}
use Rattle.voyage_meaning.specs.Refusals.{IsShutOver, IsFilledIn}
use Rattle.voyage_meaning.proofs.TierSides.{tier_low}
use Rattle.voyage_meaning.proofs.Judged.{lift_blocked, lift_none, none_placed, least_placed}
use Rattle.voyage_meaning.proofs.refusals.lift_fault.Goals as goal

pub overflow_add-place : goal.overflow_add-place
overflow_add-place c = let low = tier_low c.args.ship.now c.args.p c.place-place.result c.obeys_rules.ensures c.place-place.ensures in omega (arith, low)

pub returns-in-None : goal.returns-in-None
returns-in-None c = λ cargo quay. lift_none c.args.ship.now cargo (record { plan = c.args.plan.now; quay = quay; off = c.args.off.now }) c.args.p
    (λ e. both_ways c.is_empty_at.result c.if-is_empty_at.false (c.is_empty_at.ensures.1 e))
    (none_placed c.args.ship.now c.args.p c.place-place.result (λ (z : Place) (k : ℕ). IsShutOver c.args.ship.now c.args.off.now z.stack k) c.place-place.ensures c.in_default.ensures)
    (none_placed c.args.ship.now c.args.p c.place-place.result (λ (z : Place) (h : ℕ). OfHalf c.args.ship.now (IsFilledIn c.args.ship.now c.args.plan.now z (z.tier + 1)) h) c.place-place.ensures c.in-None.ensures)

pub returns-in-Some-first_filled : goal.returns-in-Some-first_filled
returns-in-Some-first_filled c = λ cargo quay. lift_blocked c.args.ship.now cargo (record { plan = c.args.plan.now; quay = quay; off = c.args.off.now }) c.args.p c.in-Some-first_filled.half
    (λ e. both_ways c.is_empty_at.result c.if-is_empty_at.false (c.is_empty_at.ensures.1 e))
    (none_placed c.args.ship.now c.args.p c.place-place.result (λ (z : Place) (k : ℕ). IsShutOver c.args.ship.now c.args.off.now z.stack k) c.place-place.ensures c.in_default.ensures)
    (least_placed c.args.ship.now c.args.p c.place-place.result (λ (z : Place) (h : ℕ). OfHalf c.args.ship.now (IsFilledIn c.args.ship.now c.args.plan.now z (z.tier + 1)) h) c.in-Some-first_filled.half c.place-place.ensures c.in-Some-first_filled.ensures)
