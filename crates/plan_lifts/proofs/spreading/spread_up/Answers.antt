use Rattle.std.proofs.Common.{arith, ◌∙◌}
use Rattle.plan_lifts.specs.Spread.{has}
use Rattle.plan_lifts.proofs.Spreads.{up_none, up_more, up_all}
use Rattle.plan_lifts.proofs.spreading.spread_up.Goals as goal

pub loop-p-init : goal.loop-p-init
loop-p-init c = record { up = up_none c.args.ship.now c.args.plan.now (has c.args.set.now); each_flag = c.requires.each_flag }

pub loop-p-preserved : goal.loop-p-preserved
loop-p-preserved c = record {
  up = up_more c.args.ship.now c.args.plan.now (has c.args.set.now) (has c.loop-p.set) (has c.add_where.new.set) c.loop-p.p c.is_above_one-also.result c.loop-p.invariant.up c.is_above_one-also.ensures c.add_where.ensures.adds;
  each_flag = c.add_where.ensures.each_flag ∙ c.loop-p.invariant.each_flag;
}

pub returns-clause-least : goal.returns-clause-least
returns-clause-least c = up_all c.args.ship.now c.args.plan.now (has c.args.set.now) (has c.loop-p.set) c.loop-p.p (omega arith) c.loop-p.invariant.up
