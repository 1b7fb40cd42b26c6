use Rattle.dual_bound.specs.Raising.{AreMultipliers}
use Rattle.price_parts.proofs.prices.write_adds.Given as goal

abbrev pub invariant-loop-raise : goal.invariant-loop-raise
invariant-loop-raise l = AreMultipliers l.model l.prices
