use Rattle.std.proofs.Common.{◌≡◌, take, map}
use Rattle.zero_one_rows.specs.Chains.{pairs_of}
use Rattle.zero_one_rows.specs.Crossing.{load_of}
use Rattle.zero_one_rows.proofs.crossing.loads.Given as goal

abbrev pub invariant-loop-k : goal.invariant-loop-k
invariant-loop-k g l = l.loads.items ≡ map (λ p. load_of g.m l.long p.0 p.1) (take l.k (pairs_of l.chain))
