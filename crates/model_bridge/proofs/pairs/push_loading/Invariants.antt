use Rattle.std.proofs.Common.{◌≡◌, ◌++◌}
use Rattle.std.specs.Prelude.{filter}
use Rattle.std.specs.List.{range_with_len}
use Rattle.model_bridge.specs.Pairs.{loads}
use Rattle.model_bridge.proofs.pairs.push_loading.Given as goal

abbrev pub invariant-loop-c : goal.invariant-loop-c
invariant-loop-c l = l.pool ≡ l.initial.pool ++ filter (loads l.model l.call) (range_with_len 0 l.c)
