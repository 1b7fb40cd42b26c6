use Rattle.crossing_pricing.specs.Pairs.{AreGained}
use Rattle.crossing_pricing.proofs.pairs.gaps_by_pair.Given as goal

abbrev pub invariant-loop-v : goal.invariant-loop-v
invariant-loop-v l = AreGained l.b l.reduced l.keys l.v l.gaps
