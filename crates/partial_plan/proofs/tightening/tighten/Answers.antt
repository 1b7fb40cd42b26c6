use Rattle.std.proofs.Common.{◌≢◌, length, arith}
use Rattle.partial_plan.proofs.Freeing.{noted_none, noted_more}
use Rattle.partial_plan.proofs.Steps.{tightens_none, tightens_more}
use Rattle.partial_plan.proofs.Falling.{tightens_falls, tightens_length}
use Rattle.partial_plan.proofs.tightening.tighten.Goals as goal

pub sweeps-init : goal.sweeps-init
sweeps-init c = record {
  len = c.requires.whole;
  steps = tightens_none c.args.model.now c.args.b.now c.args.steps.now;
  noted = noted_none c.args.b.now c.args.undo.now;
}

pub sweeps-preserved : goal.sweeps-preserved
sweeps-preserved c = record {
  len = tightens_length c.args.model.now c.sweeps.b c.sweep.new.b c.sweeps.steps c.sweep.new.steps c.sweeps.invariant.len c.sweep.ensures.steps;
  steps = tightens_more c.args.model.now c.args.b.now c.sweeps.b c.sweep.new.b c.args.steps.now c.sweeps.steps c.sweep.new.steps c.sweeps.invariant.steps c.sweep.ensures.steps;
  noted = noted_more c.args.b.now c.sweeps.b c.sweep.new.b c.args.undo.now c.sweeps.undo c.sweep.new.undo c.sweeps.invariant.noted c.sweep.ensures.noted;
}

pub sweeps-smaller : goal.sweeps-smaller
sweeps-smaller c =
    let other : length c.sweep.new.steps ≢ length c.sweeps.steps = λ e. omega arith in
    tightens_falls c.args.model.now c.sweeps.b c.sweep.new.b c.sweeps.steps c.sweep.new.steps c.sweeps.invariant.len c.sweep.ensures.steps other

pub returns-then-len-before-clause-steps : goal.returns-then-len-before-clause-steps
returns-then-len-before-clause-steps c = tightens_more c.args.model.now c.args.b.now c.sweeps.b c.sweep.new.b c.args.steps.now c.sweeps.steps c.sweep.new.steps c.sweeps.invariant.steps c.sweep.ensures.steps

pub returns-then-len-before-clause-noted : goal.returns-then-len-before-clause-noted
returns-then-len-before-clause-noted c = noted_more c.args.b.now c.sweeps.b c.sweep.new.b c.args.undo.now c.sweeps.undo c.sweep.new.undo c.sweeps.invariant.noted c.sweep.ensures.noted

pub returns-in-Err-Violated-clause-steps : goal.returns-in-Err-Violated-clause-steps
returns-in-Err-Violated-clause-steps c = tightens_more c.args.model.now c.args.b.now c.sweeps.b c.sweep.new.b c.args.steps.now c.sweeps.steps c.sweep.new.steps c.sweeps.invariant.steps c.sweep.ensures.steps

pub returns-in-Err-Violated-clause-noted : goal.returns-in-Err-Violated-clause-noted
returns-in-Err-Violated-clause-noted c = noted_more c.args.b.now c.sweeps.b c.sweep.new.b c.args.undo.now c.sweeps.undo c.sweep.new.undo c.sweeps.invariant.noted c.sweep.ensures.noted

pub returns-in-Err-NoMemory-clause-steps : goal.returns-in-Err-NoMemory-clause-steps
returns-in-Err-NoMemory-clause-steps c = tightens_more c.args.model.now c.args.b.now c.sweeps.b c.sweep.new.b c.args.steps.now c.sweeps.steps c.sweep.new.steps c.sweeps.invariant.steps c.sweep.ensures.steps

pub returns-in-Err-NoMemory-clause-noted : goal.returns-in-Err-NoMemory-clause-noted
returns-in-Err-NoMemory-clause-noted c = noted_more c.args.b.now c.sweeps.b c.sweep.new.b c.args.undo.now c.sweeps.undo c.sweep.new.undo c.sweeps.invariant.noted c.sweep.ensures.noted
