use Rattle.std.proofs.Common.{◌≡◌, take}
use Rattle.std.specs.Prelude.{flat_map}
use Rattle.model_bridge.specs.Pairs.{pair_at_arrival}
use Rattle.model_bridge.proofs.pairs.held_at_arrival.Given as goal

abbrev pub invariant-loop-v : goal.invariant-loop-v
invariant-loop-v l = l.held ≡ flat_map (pair_at_arrival l.model) (take l.v-index l.list)
