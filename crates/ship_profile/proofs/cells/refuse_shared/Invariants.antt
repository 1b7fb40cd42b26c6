use Rattle.std.proofs.Common.{◌≡◌, [], take, drop}
use Rattle.ship_profile.specs.Stacks.{apart_after}
use Rattle.ship_profile.specs.Positions.{AreCells}
use Rattle.ship_profile.proofs.cells.refuse_shared.Given as goal

abbrev pub invariant-loop-s : goal.invariant-loop-s
invariant-loop-s l = record { taken : AreCells l.cells (take l.s-index l.stacks); same : apart_after (take l.s-index l.stacks) (drop l.s-index l.stacks) ≡ apart_after [] l.stacks }
