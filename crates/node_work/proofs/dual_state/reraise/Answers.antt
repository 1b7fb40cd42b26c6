use Rattle.std.proofs.Common.{◌∙◌}
use Rattle.node_work.proofs.Changes.{can_change, changes}
use Rattle.node_work.proofs.dual_state.reraise.Goals as goal

pub reraise_one-requires-clause-range : goal.reraise_one-requires-clause-range
reraise_one-requires-clause-range c =
    can_change c.loop-raise.gauge.multipliers c.args.raises.now c.loop-raise.raise-index c.raise-item.result c.loop-raise-test.true c.raise-item.is c.requires.range.0 (c.loop-raise.invariant.rest ∙ c.requires.range.1)

pub loop-raise-preserved : goal.loop-raise-preserved
loop-raise-preserved c = record {
  voyage = c.reraise_one.ensures.voyage ∙ c.loop-raise.invariant.voyage;
  known = c.reraise_one.ensures.known ∙ c.loop-raise.invariant.known;
  rest = changes c.loop-raise.gauge.multipliers c.args.raises.now c.loop-raise.raise-index c.raise-item.result c.loop-raise-test.true c.raise-item.is c.reraise_one.new.gauge.multipliers c.in_ok-reraise_one.ensures.raised ∙ c.loop-raise.invariant.rest;
}
