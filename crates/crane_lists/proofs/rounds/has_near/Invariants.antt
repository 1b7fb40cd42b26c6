use Rattle.std.specs.List.{AllWithin}
use Rattle.crane_lists.specs.Sharing.{IsFar}
use Rattle.crane_lists.proofs.rounds.has_near.Given as goal

abbrev pub invariant-loop-i : goal.invariant-loop-i
invariant-loop-i l = AllWithin (IsFar l.ship l.tasks l.j) l.round 0 l.i-index
