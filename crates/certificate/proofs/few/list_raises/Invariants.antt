use Rattle.std.proofs.Common.{◌≡◌, take}
use Rattle.certificate.proofs.few.list_raises.Given as goal

abbrev pub invariant-loop-raise : goal.invariant-loop-raise
invariant-loop-raise l = l.raises ≡ take l.raise-index l.kept
