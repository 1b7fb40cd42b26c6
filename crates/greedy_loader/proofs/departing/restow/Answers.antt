use Rattle.std.proofs.Common.{Bool, List, ℕ, Some, None, subst, sym}
use Rattle.std.specs.Prelude.{if◌then◌else◌}
use Rattle.greedy_loader.specs.Quays.{AreWaiting, IsLoaded}
use Rattle.greedy_loader.proofs.Carried.{aboard_after, waiting_ashore}
use Rattle.greedy_loader.proofs.departing.restow.Goals as goal

pub load_all-requires-clause-waiting : goal.load_all-requires-clause-waiting
load_all-requires-clause-waiting c = subst (λ (z : List ℕ). AreWaiting c.args.cargo.now c.in_ok-layout.layout.plan z) (sym c.as_slice.ensures)
    (waiting_ashore c.args.ship.now c.args.cargo.now c.args.call c.args.before.now c.in_ok-layout.layout.plan c.in_ok-lifted.lifted c.in_ok-quay.quay c.requires.from c.requires.formed c.requires.aboard c.in_ok-layout.ensures.plan c.in_ok-quay.ensures)

pub returns-then-branch-clause-aboard : goal.returns-then-branch-clause-aboard
returns-then-branch-clause-aboard c = aboard_after c.args.ship.now c.args.cargo.now c.args.call c.args.before.now c.in_ok-layout.layout.plan c.load_all.new.layout.plan c.in_ok-lifted.lifted c.in_ok-quay.quay c.obeys_rules.ensures c.requires.from c.requires.formed c.requires.aboard c.in_ok-lifted.ensures.least c.in_ok-layout.ensures.plan c.in_ok-quay.ensures
    (subst (λ (z : List ℕ). IsLoaded c.args.ship.now c.args.cargo.now c.in_ok-layout.layout.plan z (Some c.load_all.new.layout.plan)) c.as_slice.ensures
    (subst (λ (b : Bool). IsLoaded c.args.ship.now c.args.cargo.now c.in_ok-layout.layout.plan c.as_slice.result.now (if b then Some c.load_all.new.layout.plan else None)) c.if-branch.true c.in_ok-load_all.ensures.loads))
