use Rattle.std.proofs.Common.{◌≡◌, take}
use Rattle.std.specs.Prelude.{filter}
use Rattle.model_bridge.specs.Pairs.{is_put}
use Rattle.model_bridge.proofs.pairs.put_at.Given as goal

abbrev pub invariant-loop-v : goal.invariant-loop-v
invariant-loop-v l = l.put ≡ filter (is_put l.model l.call) (take l.v-index l.list)
