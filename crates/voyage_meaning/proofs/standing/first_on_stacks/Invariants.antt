use Rattle.std.proofs.Common.{take}
use Rattle.stowage_rules.specs.Faults.{OfHalf}
use Rattle.voyage_meaning.specs.Refusals.{Finds}
use Rattle.voyage_meaning.specs.Stacks.{IsFilledOnAny}
use Rattle.voyage_meaning.proofs.standing.first_on_stacks.Given as goal

abbrev pub invariant-loop-stack : goal.invariant-loop-stack
invariant-loop-stack l = Finds (OfHalf l.ship (IsFilledOnAny l.ship l.plan (take l.stack-index l.stacks))) l.first
