use Rattle.std.proofs.Common.{Bool, true, false, subst}
use Rattle.greedy_loader.specs.Quays.{GoesAboard}
use Rattle.greedy_loader.proofs.Aboard.{aboard_more, aboard_none, ashore_more}
use Rattle.greedy_loader.proofs.boarding.load_all.Goals as goal

pub returns-then-not-branch-clause-loads : goal.returns-then-not-branch-clause-loads
returns-then-not-branch-clause-loads c =
    let goes : GoesAboard c.args.ship.now c.args.cargo.now c.loop-c.layout.plan c.c-item.result false c.load_one.new.layout.plan = subst (λ (b : Bool). GoesAboard c.args.ship.now c.args.cargo.now c.loop-c.layout.plan c.c-item.result b c.load_one.new.layout.plan) c.if-not-branch.true c.in_ok-load_one.ensures.goes in
    aboard_none c.args.ship.now c.args.cargo.now c.args.layout.now.plan c.loop-c.layout.plan c.args.quay.now c.loop-c.c-index c.c-item.result c.loop-c-test.true c.c-item.is goes c.loop-c.invariant.leads

pub loop-c-preserved : goal.loop-c-preserved
loop-c-preserved c =
    let goes : GoesAboard c.args.ship.now c.args.cargo.now c.loop-c.layout.plan c.c-item.result true c.load_one.new.layout.plan = subst (λ (b : Bool). GoesAboard c.args.ship.now c.args.cargo.now c.loop-c.layout.plan c.c-item.result b c.load_one.new.layout.plan) c.if-not-branch.false c.in_ok-load_one.ensures.goes in
    record {
      kept = c.in_ok-load_one.ensures.kept;
      leads = aboard_more c.args.ship.now c.args.cargo.now c.args.layout.now.plan c.loop-c.layout.plan c.load_one.new.layout.plan c.args.quay.now c.loop-c.c-index c.c-item.result c.loop-c-test.true c.c-item.is goes c.loop-c.invariant.leads;
      ashore = ashore_more c.args.ship.now c.args.cargo.now c.args.layout.now.plan c.loop-c.layout.plan c.load_one.new.layout.plan c.args.quay.now c.loop-c.c-index c.c-item.result c.loop-c-test.true c.c-item.is c.requires.waiting goes c.loop-c.invariant.ashore;
    }
