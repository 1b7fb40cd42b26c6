use Rattle.std.proofs.Common.{◌≡◌, ◌++◌, take}
use Rattle.ship_profile.proofs.covers.name.Given as goal

abbrev pub invariant-loop-stack : goal.invariant-loop-stack
invariant-loop-stack l = l.named ≡ l.initial.named ++ take l.stack-index l.these
