use Rattle.std.proofs.Common.{◌+◌, ap}
use Rattle.stow_cli.proofs.Works.{files_more, files_done}
use Rattle.stow_cli.proofs.work.files_of.Goals as goal

pub loop-plan-preserved : goal.loop-plan-preserved
loop-plan-preserved c = record {
  made = rw (c.in_ok-push.ensures, c.in_ok-file_of.ensures) (files_more c.args.base.now c.args.v.now c.loop-plan.call c.loop-plan.files _ c.args.plans.now c.loop-plan.plan-index c.plan-item.result c.loop-plan-test.true c.plan-item.is c.loop-plan.invariant.made);
  counted = ap (λ n. n + 1) c.loop-plan.invariant.counted;
}

pub returns : goal.returns
returns c = files_done c.args.base.now c.args.v.now c.loop-plan.call c.loop-plan.files _ c.args.plans.now c.loop-plan.plan-index c.loop-plan-test.false c.loop-plan.invariant.made
