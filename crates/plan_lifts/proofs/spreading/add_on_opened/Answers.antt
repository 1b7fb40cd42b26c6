use Rattle.std.proofs.Common.{arith, ◌∙◌, length, ◌<◌}
use Rattle.std.proofs.lemmas.Option.{slice_get_within}
use Rattle.stow_data.specs.Ship.{places}
use Rattle.plan_lifts.specs.Spread.{has, IsOnOpened}
use Rattle.plan_lifts.proofs.Spreads.{picked_none, picked_more, picked_all}
use Rattle.plan_lifts.proofs.spreading.add_on_opened.Goals as goal

pub loop-p-init : goal.loop-p-init
loop-p-init c = record { on = picked_none (has c.args.set.now) (IsOnOpened c.args.ship.now c.args.plan.now (has c.args.opened.now)); each_flag = c.requires.each_flag }

pub loop-p-preserved : goal.loop-p-preserved
loop-p-preserved c = record {
  on = picked_more (has c.args.set.now) (IsOnOpened c.args.ship.now c.args.plan.now (has c.args.opened.now)) (has c.loop-p.set) (has c.add_where.new.set) c.loop-p.p c.is_on_opened-also.result c.loop-p.invariant.on c.is_on_opened-also.ensures c.add_where.ensures.adds;
  each_flag = c.add_where.ensures.each_flag ∙ c.loop-p.invariant.each_flag;
}

pub returns-clause-adds : goal.returns-clause-adds
returns-clause-adds c = picked_all (has c.args.set.now) (IsOnOpened c.args.ship.now c.args.plan.now (has c.args.opened.now)) (has c.loop-p.set) c.loop-p.p (λ p x. let l : p < length (places c.args.ship.now) = slice_get_within (places c.args.ship.now) p x.under.place x.under.is_place in omega arith) c.loop-p.invariant.on
