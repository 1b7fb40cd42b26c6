use Rattle.std.proofs.Common.{◌≡◌, ◌++◌, take}
use Rattle.ship_profile.proofs.covers.append.Given as goal

abbrev pub invariant-loop-stack : goal.invariant-loop-stack
invariant-loop-stack l = l.list ≡ l.initial.list ++ take l.stack-index l.these
