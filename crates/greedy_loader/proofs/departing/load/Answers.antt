use Rattle.std.proofs.Common.{◌≡◌, ◌++◌, ◌∷◌, [], Option, Some, length, subst, arith}
use Rattle.std.specs.Prelude.{IfSome}
use Rattle.stow_data.specs.Plans.{Plan}
use Rattle.stowage_rules.specs.Departure.{IsDeparture}
use Rattle.greedy_loader.specs.Calls.{Departs}
use Rattle.greedy_loader.proofs.Sailing.{leads_all, leads_none, sailed_on}
use Rattle.greedy_loader.proofs.departing.load.Goals as goal

pub returns-in-None-clause-rule : goal.returns-in-None-clause-rule
returns-in-None-clause-rule c =
    let n = c.calls-call-end.ensures.number in
    leads_none c.args.ship.now c.args.cargo.now (length c.args.cargo.now.rotation) c.loop-call.call c.loop-call.before c.loop-call.plans (omega (arith, n, c.loop-call-test.true))
    (subst (λ (z : Option Plan). Departs c.args.ship.now c.args.cargo.now c.loop-call.call c.loop-call.before z) c.in-None.is c.in_ok-depart.ensures.rule)
    c.loop-call.invariant.leads

pub returns-clause-rule : goal.returns-clause-rule
returns-clause-rule c =
    let n = c.calls-call-end.ensures.number in
    leads_all c.args.ship.now c.args.cargo.now (length c.args.cargo.now.rotation) c.loop-call.call c.loop-call.before c.loop-call.plans (omega (arith, n, c.loop-call-test.false)) c.loop-call.invariant.leads

pub loop-call-preserved : goal.loop-call-preserved
loop-call-preserved c =
    let n = c.calls-call-end.ensures.number in
    let long = c.loop-call.invariant.long in
    let same : c.in_ok-before-in-Some.before ≡ c.in-Some.after = c.in_ok-before-in-Some.ensures in
    let pushed : c.push.new.self ≡ c.loop-call.plans ++ c.in-Some.after ∷ [] = c.in_ok-push-in-Some.ensures in
    let rule : Departs c.args.ship.now c.args.cargo.now c.loop-call.call c.loop-call.before (Some c.in-Some.after) = subst (λ (z : Option Plan). Departs c.args.ship.now c.args.cargo.now c.loop-call.call c.loop-call.before z) c.in-Some.is c.in_ok-depart.ensures.rule in
    let legal : IsDeparture c.args.ship.now c.args.cargo.now c.loop-call.call c.in-Some.after = subst (λ (z : Option Plan). IfSome z (IsDeparture c.args.ship.now c.args.cargo.now c.loop-call.call)) c.in-Some.is c.in_ok-depart.ensures.legal in
    sailed_on c.args.ship.now c.args.cargo.now (length c.args.cargo.now.rotation) c.loop-call.call c.loop-call.before c.in-Some.after c.in_ok-before-in-Some.before c.loop-call.plans c.push.new.self same pushed (omega (arith, n, c.loop-call-test.true)) rule legal c.loop-call.invariant.leads c.loop-call.invariant.legal long
