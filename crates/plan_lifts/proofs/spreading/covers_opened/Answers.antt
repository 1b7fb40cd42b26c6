use Rattle.std.proofs.Common.{arith, ◌<◌, length}
use Rattle.std.proofs.lemmas.Option.{slice_get_within}
use Rattle.stow_data.specs.Ship.{places}
use Rattle.plan_lifts.specs.Spread.{has, IsOpenedBy}
use Rattle.plan_lifts.proofs.Spreads.{gathered_more, gathered_all}
use Rattle.plan_lifts.proofs.spreading.covers_opened.Goals as goal

pub loop-p-preserved : goal.loop-p-preserved
loop-p-preserved c = record {
  opens = gathered_more (IsOpenedBy c.args.ship.now (has c.args.set.now)) (has c.loop-p.opened) (has c.open_over.new.opened) c.loop-p.p c.loop-p.invariant.opens c.open_over.ensures.opens;
  each_cover = c.open_over.ensures.each_cover;
}

pub returns-clause-opens : goal.returns-clause-opens
returns-clause-opens c = gathered_all (IsOpenedBy c.args.ship.now (has c.args.set.now)) (has c.loop-p.opened) c.loop-p.p (λ q k x. let l : q < length (places c.args.ship.now) = slice_get_within (places c.args.ship.now) q x.place x.is_place in omega arith) c.loop-p.invariant.opens
