use Rattle.dual_bound.specs.Raising.{AreMultipliers}
use Rattle.price_parts.proofs.prices.prices_of.Given as goal

abbrev pub invariant-loop-record : goal.invariant-loop-record
invariant-loop-record l = AreMultipliers l.model l.prices
