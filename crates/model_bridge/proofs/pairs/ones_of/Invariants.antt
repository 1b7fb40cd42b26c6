use Rattle.std.proofs.Common.{◌≡◌}
use Rattle.std.specs.Prelude.{filter}
use Rattle.std.specs.List.{range_with_len}
use Rattle.model_bridge.specs.Pairs.{ones}
use Rattle.model_bridge.proofs.pairs.ones_of.Given as goal

abbrev pub invariant-loop-v : goal.invariant-loop-v
invariant-loop-v l = l.list ≡ filter (ones l.full) (range_with_len 0 l.v)
