use Rattle.std.proofs.Common.{◌≡◌, drop}
use Rattle.std.specs.Prelude.{fold}
use Rattle.crane_lists.specs.Bays.{lesser_bay}
use Rattle.crane_lists.proofs.bays.least_bay.Given as goal

abbrev pub invariant-loop-s : goal.invariant-loop-s
invariant-loop-s l = fold (lesser_bay l.ship) l.least (drop l.s-index l.stacks) ≡ fold (lesser_bay l.ship) l.initial.least l.stacks
