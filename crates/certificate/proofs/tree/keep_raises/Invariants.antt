use Rattle.std.proofs.Common.{◌≡◌, take}
use Rattle.certificate.proofs.tree.keep_raises.Given as goal

abbrev pub invariant-loop-raise : goal.invariant-loop-raise
invariant-loop-raise l = l.kept ≡ take l.raise-index l.raises
