use Rattle.arrival_plan.proofs.Appending.{one_more}
use Rattle.arrival_plan.proofs.settling.add_all.Goals as goal

pub loop-number-preserved : goal.loop-number-preserved
loop-number-preserved c = one_more c.args.containers.now c.loop-number.containers c.push.new.self c.args.cargo.now.containers c.loop-number.number c.container.result.now c.copied.result c.loop-number.invariant c.in_ok-push.ensures c.copied.ensures c.container.ensures
