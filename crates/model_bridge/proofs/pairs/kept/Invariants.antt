use Rattle.std.proofs.Common.{◌≡◌, take}
use Rattle.std.specs.Prelude.{filter}
use Rattle.model_bridge.specs.Pairs.{stays}
use Rattle.model_bridge.proofs.pairs.kept.Given as goal

abbrev pub invariant-loop-pair : goal.invariant-loop-pair
invariant-loop-pair l = l.kept ≡ filter (stays l.model l.call) (take l.pair-index l.held)
