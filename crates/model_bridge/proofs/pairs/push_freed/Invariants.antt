use Rattle.std.proofs.Common.{◌≡◌, ◌++◌, take}
use Rattle.model_bridge.specs.Pairs.{freed}
use Rattle.model_bridge.proofs.pairs.push_freed.Given as goal

abbrev pub invariant-loop-pair : goal.invariant-loop-pair
invariant-loop-pair l = l.pool ≡ l.initial.pool ++ freed l.model l.call (take l.pair-index l.held)
