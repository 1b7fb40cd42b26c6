use Rattle.std.proofs.Common.{arith, sym, subst}
use Rattle.proof_trees.specs.Boxes.{Box}
use Rattle.zero_one_rows.specs.Tightening.{IsQuiet}
use Rattle.partial_plan.proofs.Freeing.{noted_more}
use Rattle.partial_plan.proofs.Steps.{tightens_more}
use Rattle.partial_plan.proofs.CalmRows.{quiet_rests}
use Rattle.partial_plan.proofs.state.PropagationState.tighten.Goals as goal

pub returns-in-Some-look-clause-steps : goal.returns-in-Some-look-clause-steps
returns-in-Some-look-clause-steps c = tightens_more c.args.matrix.now c.args.self.now.b c.loop-k.self.b c.look.new.self.b c.args.steps.now c.loop-k.steps c.look.new.steps c.loop-k.invariant.steps c.look.ensures.steps

pub returns-in-Some-look-clause-noted : goal.returns-in-Some-look-clause-noted
returns-in-Some-look-clause-noted c = noted_more c.args.self.now.b c.loop-k.self.b c.look.new.self.b c.args.self.now.undo.items c.loop-k.self.undo.items c.look.new.self.undo.items c.loop-k.invariant.noted c.look.ensures.noted

pub loop-k-preserved : goal.loop-k-preserved
loop-k-preserved c = record {
  state = c.look.ensures.state;
  rests = c.look.ensures.rests;
  steps = tightens_more c.args.matrix.now c.args.self.now.b c.loop-k.self.b c.look.new.self.b c.args.steps.now c.loop-k.steps c.look.new.steps c.loop-k.invariant.steps c.look.ensures.steps;
  noted = noted_more c.args.self.now.b c.loop-k.self.b c.look.new.self.b c.args.self.now.undo.items c.loop-k.self.undo.items c.look.new.self.undo.items c.loop-k.invariant.noted c.look.ensures.noted;
}

pub settle-requires-clause-quiet : goal.settle-requires-clause-quiet
settle-requires-clause-quiet c =
    let i = c.loop-k.invariant in
    quiet_rests c.args.matrix.now c.loop-k.self.b c.loop-k.self.slacks c.rows_are_listed.ensures.base i.state.holds i.rests (λ k lt. c.next.ensures.none c.in_default.is k (omega (arith, i.state.holds.short.marks)))

pub returns-clause-ends : goal.returns-clause-ends
returns-clause-ends c =
    let i = c.loop-k.invariant in
    subst (λ (b : Box). IsQuiet c.args.matrix.now b) (sym c.settle.ensures.known)
    (quiet_rests c.args.matrix.now c.loop-k.self.b c.loop-k.self.slacks c.rows_are_listed.ensures.base i.state.holds i.rests (λ k lt. c.next.ensures.none c.in_default.is k (omega (arith, i.state.holds.short.marks))))
