use Rattle.std.proofs.Common.{◌≡◌, map, take}
use Rattle.row_sums.specs.RowClasses.{pair_of}
use Rattle.row_sums.proofs.classes.class_pairs.Given as goal

abbrev pub invariant-loop-index : goal.invariant-loop-index
invariant-loop-index l = l.pairs ≡ map (pair_of l.ship) (take l.index l.ship.separations)
