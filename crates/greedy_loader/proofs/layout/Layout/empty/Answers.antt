use Rattle.greedy_loader.proofs.Nothing.{bare_kept}
use Rattle.greedy_loader.proofs.layout.Layout.empty.Goals as goal

pub returns-clause-kept : goal.returns-clause-kept
returns-clause-kept c = bare_kept c.args.ship.now c.args.cargo.now _ c.stacks.result c.stacks-2.result c.covers.result c.covers-2.result c.calls.result c.in_ok-plan.ensures c.in_ok-weights.ensures c.stacks.ensures c.in_ok-tops.ensures c.stacks-2.ensures c.in_ok-laden.ensures c.covers.ensures c.in_ok-earliest.ensures c.covers-2.ensures c.calls.ensures.number c.new.ensures
