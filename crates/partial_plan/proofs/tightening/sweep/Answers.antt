use Rattle.std.proofs.Common.{arith}
use Rattle.partial_plan.proofs.Freeing.{noted_none, noted_more}
use Rattle.partial_plan.proofs.Steps.{tightens_none, tightens_more}
use Rattle.partial_plan.proofs.Falling.{tightens_length}
use Rattle.partial_plan.proofs.Calming.{calm_none, calm_more, calm_all}
use Rattle.partial_plan.proofs.tightening.sweep.Goals as goal

pub loop-k-init : goal.loop-k-init
loop-k-init c = record {
  len = c.requires.whole;
  steps = tightens_none c.args.model.now c.args.b.now c.args.steps.now;
  noted = noted_none c.args.b.now c.args.undo.now;
  calm = λ _. calm_none c.args.model.now c.args.b.now;
  ones = c.in_ok-ones.ensures;
}

pub loop-k-preserved : goal.loop-k-preserved
loop-k-preserved c =
    let m = c.args.model.now in
    let i = c.loop-k.invariant in
    record {
      len = tightens_length m c.loop-k.b c.visit.new.b c.loop-k.steps c.visit.new.steps i.len c.visit.ensures.steps;
      steps = tightens_more m c.args.b.now c.loop-k.b c.visit.new.b c.args.steps.now c.loop-k.steps c.visit.new.steps i.steps c.visit.ensures.steps;
      noted = noted_more c.args.b.now c.loop-k.b c.visit.new.b c.args.undo.now c.loop-k.undo c.visit.new.undo i.noted c.visit.ensures.noted;
      calm = calm_more m c.args.b.now c.loop-k.b c.visit.new.b c.loop-k.k c.base_row-row.result c.args.steps.now c.loop-k.steps c.visit.new.steps c.base_row-row.ensures.place i.steps c.visit.ensures.steps c.in_ok-visit.ensures.ends i.calm;
      ones = c.in_ok-visit.ensures.ones;
    }

pub returns-in_err-visit-clause-steps : goal.returns-in_err-visit-clause-steps
returns-in_err-visit-clause-steps c = tightens_more c.args.model.now c.args.b.now c.loop-k.b c.visit.new.b c.args.steps.now c.loop-k.steps c.visit.new.steps c.loop-k.invariant.steps c.visit.ensures.steps

pub returns-in_err-visit-clause-noted : goal.returns-in_err-visit-clause-noted
returns-in_err-visit-clause-noted c = noted_more c.args.b.now c.loop-k.b c.visit.new.b c.args.undo.now c.loop-k.undo c.visit.new.undo c.loop-k.invariant.noted c.visit.ensures.noted

pub returns-clause-ends : goal.returns-clause-ends
returns-clause-ends c = λ e. calm_all c.args.model.now c.loop-k.b c.loop-k.k c.rows_are_listed.ensures.base (omega (arith, c.base_rows-k-end.ensures)) (c.loop-k.invariant.calm e)
