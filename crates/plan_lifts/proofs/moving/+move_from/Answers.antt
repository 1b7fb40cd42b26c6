use Rattle.std.specs.Prelude.{◌≡◌, ◌+◌, suc}
use Rattle.std.proofs.Common.{arith}
use Rattle.plan_lifts.specs.Lifted.{LiftsAppended, SailsLeast}
use Rattle.plan_lifts.proofs.Exactly.{exact_step}
use Rattle.plan_lifts.proofs.LiftsHold.{known_in}
use Rattle.plan_lifts.proofs.Sailing.{after_ok, lifted_parts, named_known, sail_step}
use Rattle.plan_lifts.proofs.moving.+move_from.Goals as goal

pub call_moves-requires-clause-named : goal.call_moves-requires-clause-named
call_moves-requires-clause-named t c =
    let s = c.in-Some-Some in
    named_known c.args.ship.now c.args.cargo.now c.args.before.now s.after.now s.others.now s.list.now s.rest.now
    (known_in c.args.ship.now c.args.cargo.now c.args.before.now c.requires.stowed.well_formed)
    (lifted_parts c.args.ship.now c.args.before.now s.after.now c.args.plans.now s.others.now s.list.now c.args.lists.now s.rest.now s.ensures.cases.0 s.ensures'.cases.0 c.requires.lifted)

pub returns-clause-least : goal.returns-clause-least
returns-clause-least t c =
    let s = c.in-Some-Some in
    let same : c.earlier.inside.0 ≡ c.args.earlier = c.earlier.view_is in
    after_ok
    (SailsLeast c.args.ship.now c.args.cargo.now (suc (c.earlier.inside.0 + 1)) s.after.now s.others.now c.push.new.self c.move_from.new.voyage)
    (SailsLeast c.args.ship.now c.args.cargo.now (suc c.args.earlier) c.args.before.now c.args.plans.now c.args.voyage.now c.move_from.new.voyage)
    c.move_from.result
    (λ later. sail_step c.args.ship.now c.args.cargo.now c.args.earlier (c.earlier.inside.0 + 1) c.args.before.now s.after.now c.args.plans.now s.others.now s.list.now c.args.lists.now s.rest.now c.in_ok-moves.moves c.args.voyage.now c.push.new.self c.move_from.new.voyage
    s.ensures.cases.0 s.ensures'.cases.0 (omega (arith, same))
    c.obeys_rules.ensures c.obeys_rules-2.ensures c.requires.stowed c.requires.legal c.requires.lifted c.in_ok-moves.ensures c.in_ok-push.ensures later)
    c.move_from.ensures.least

pub returns-clause-exact : goal.returns-clause-exact
returns-clause-exact t c =
    let s = c.in-Some-Some in
    let same : c.earlier.inside.0 ≡ c.args.earlier = c.earlier.view_is in
    after_ok
    (LiftsAppended c.args.ship.now c.args.cargo.now (suc (c.earlier.inside.0 + 1)) s.after.now s.others.now s.rest.now c.push.new.self c.move_from.new.voyage)
    (LiftsAppended c.args.ship.now c.args.cargo.now (suc c.args.earlier) c.args.before.now c.args.plans.now c.args.lists.now c.args.voyage.now c.move_from.new.voyage)
    c.move_from.result
    (λ later. exact_step c.args.ship.now c.args.cargo.now c.args.earlier (c.earlier.inside.0 + 1) c.args.before.now s.after.now c.args.plans.now s.others.now s.list.now c.args.lists.now s.rest.now c.in_ok-moves.moves c.args.voyage.now c.push.new.self c.move_from.new.voyage
    s.ensures.cases.0 s.ensures'.cases.0 (omega (arith, same))
    c.obeys_rules.ensures c.obeys_rules-2.ensures c.requires.stowed c.requires.legal c.requires.lifted c.in_ok-moves.ensures c.in_ok-push.ensures later)
    c.move_from.ensures.exact
