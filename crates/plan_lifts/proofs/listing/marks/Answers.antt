use Rattle.std.proofs.Common.{◌<◌, ◌∙◌, length, arith}
use Rattle.std.specs.Prelude.{Some}
use Rattle.std.proofs.lemmas.Option.{slice_get_within}
use Rattle.plan_lifts.specs.Spread.{has}
use Rattle.plan_lifts.specs.Lifted.{StandsInAt}
use Rattle.plan_lifts.proofs.Spreads.{gathered_more, gathered_all}
use Rattle.plan_lifts.proofs.listing.marks.Goals as goal

pub loop-p-preserved : goal.loop-p-preserved
loop-p-preserved c = record {
  gathered = gathered_more (StandsInAt c.args.plan.now (has c.args.set.now)) (has c.loop-p.marked) (has c.mark_at.new.marked) c.loop-p.p c.loop-p.invariant.gathered c.mark_at.ensures.marks;
  each = c.mark_at.ensures.each ∙ c.loop-p.invariant.each;
}

pub returns-clause-marks : goal.returns-clause-marks
returns-clause-marks c = gathered_all (StandsInAt c.args.plan.now (has c.args.set.now)) (has c.loop-p.marked) c.loop-p.p (λ q k x. let l : q < length c.args.plan.now = slice_get_within c.args.plan.now q (Some k) x.holds in omega (arith, l, c.requires.each_place)) c.loop-p.invariant.gathered
