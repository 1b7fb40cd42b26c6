use Rattle.std.proofs.Common.{[], get_or, ◌+◌, ◌*◌, ℕ, pos, ◌-ℤ◌}
use Rattle.crossing_pricing.specs.Climbs.{over_pairs, worth_at}
use Rattle.dual_bound.proofs.Offering.{offered_more}
use Rattle.dual_bound.proofs.offers.best_offer.Goals as goal

pub loop-index-preserved : goal.loop-index-preserved
loop-index-preserved c = λ q floor qs lt low climb two.
    offered_more (λ (k : ℕ). over_pairs (worth_at (get_or c.args.sides.now.prices k []) c.args.gaps.now c.args.from) qs -ℤ pos ((k + 1) * c.args.sides.now.columns)) c.loop-index.index q
    c.loop-index.best.gain c.offer_at.result.gain c.larger_offer-best.result.gain c.larger_offer-best.ensures (λ h. c.loop-index.invariant q floor qs h low climb two) (c.offer_at.ensures floor qs low climb two) lt
