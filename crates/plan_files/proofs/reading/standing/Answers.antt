use Rattle.std.proofs.Common.{◌<◌, ◌≤◌, length, arith}
use Rattle.std.proofs.lemmas.Result.{err_from_is_err_and}
use Rattle.plan_files.specs.PlanOf.{standing}
use Rattle.plan_files.proofs.Steps.{goes_on, is_told, stops}
use Rattle.plan_files.proofs.reading.standing.Goals as goal

pub returns-in_err-add_group-clause-told : goal.returns-in_err-add_group-clause-told
returns-in_err-add_group-clause-told c =
    let lt : c.loop-index.index < length c.args.groups.now = omega arith in
    let p = err_from_is_err_and c.from_residual-in_err-add_group.result c.from_residual-in_err-add_group.ensures.1 in
    rw (p.1, p.2) (λ ne. stops c.args.ship.now c.args.cargo.now c.args.call c.args.groups.now c.loop-index.index c.index-groups-index.result c.loop-index.standing c.in_err-add_group.field-0.0 (standing c.args.ship.now c.args.cargo.now c.args.call c.args.groups.now) lt c.index-groups-index.is (c.in_err-add_group.ensures.fault ne) c.loop-index.invariant.reading)

pub loop-index-preserved : goal.loop-index-preserved
loop-index-preserved c =
    let lt : c.loop-index.index < length c.args.groups.now = omega arith in
    record {
      reading = goes_on c.args.ship.now c.args.cargo.now c.args.call c.args.groups.now c.loop-index.index c.index-groups-index.result c.loop-index.standing c.add_group.new.standing (standing c.args.ship.now c.args.cargo.now c.args.call c.args.groups.now) lt c.index-groups-index.is c.in_ok-add_group.ensures.added c.loop-index.invariant.reading;
      each_place = c.in_ok-add_group.ensures.each_place;
      each_container = c.in_ok-add_group.ensures.each_container;
    }

pub returns-clause-told : goal.returns-clause-told
returns-clause-told c =
    let le : length c.args.groups.now ≤ c.loop-index.index = omega arith in
    is_told c.args.ship.now c.args.cargo.now c.args.call c.args.groups.now c.loop-index.index c.loop-index.standing (standing c.args.ship.now c.args.cargo.now c.args.call c.args.groups.now) le c.loop-index.invariant.reading
