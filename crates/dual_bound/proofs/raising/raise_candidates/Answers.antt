use Rattle.std.proofs.Common.{arith}
use Rattle.dual_bound.proofs.Raises.{raises_more}
use Rattle.dual_bound.proofs.raising.raise_candidates.Goals as goal

pub loop-made-preserved : goal.loop-made-preserved
loop-made-preserved c =
    let i = c.loop-made.invariant in
    record {
      priced = c.turn.ensures.priced;
      raised = raises_more c.args.model.now c.args.b.now c.args.m.now c.loop-made.m c.turn.new.m c.args.raises.now c.loop-made.raises c.turn.new.raises c.loop-made.made 1 i.raised c.in_default.ensures.raised;
      minimizer = c.turn.ensures.minimizer;
      number = omega (arith, i.number, c.in_default.ensures.one);
    }
