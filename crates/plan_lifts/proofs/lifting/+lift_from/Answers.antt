use Rattle.std.proofs.Common.{◌≡◌, ◌+◌, arith}
use Rattle.plan_lifts.specs.Spread.{has}
use Rattle.plan_lifts.proofs.LiftsHold.{known_in, lift_more, lift_none, plan_parts}
use Rattle.plan_lifts.proofs.lifting.+lift_from.Goals as goal

pub returns-in_default : goal.returns-in_default
returns-in_default t c = lift_none c.args.ship.now c.args.cargo.now c.args.call c.args.before.now c.args.plans.now c.args.lists.now c.in_default.ensures.cases

pub lift_from-requires : goal.lift_from-requires
lift_from-requires t c =
    let both = c.in-Some.ensures.cases in
    let shorter = both.1 in
    let falls = c.decreases in
    let same : c.call.inside.0 ≡ c.args.call = c.call.view_is in
    let parts = plan_parts c.args.ship.now c.args.cargo.now c.args.call (c.call.inside.0 + 1) c.in-Some.after.now c.args.plans.now c.in-Some.rest.now both.0 (omega (arith, same)) c.requires.formed in (
      omega (arith, shorter, falls),
      (
        known_in c.args.ship.now c.args.cargo.now c.in-Some.after.now parts.0,
        (parts.0.each_place, (parts.2, omega (arith, shorter, same, c.requires.few))),
      ),
    )

pub returns : goal.returns
returns t c =
    let both = c.in-Some.ensures.cases in
    let same : c.call.inside.0 ≡ c.args.call = c.call.view_is in
    lift_more c.args.ship.now c.args.cargo.now c.args.call (c.call.inside.0 + 1) c.args.before.now c.in-Some.after.now c.args.plans.now c.in-Some.rest.now (has c.in_ok-set.set) c.in_ok-list.list c.args.lists.now c.push.new.self c.lift_from.new.lists c.cost_of-here.result c.in_ok-later.later
    both.0 (omega (arith, same)) c.requires.formed c.in_default-departure_fault.ensures
    c.in_ok-set.ensures.least c.in_ok-set.ensures.filled c.in_ok-list.ensures c.in_ok-push.ensures
    c.cost_of-here.ensures.value c.cost_of-here.ensures.small c.in_ok-later.ensures
