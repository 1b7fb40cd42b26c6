use Rattle.std.proofs.Common.{◌≡◌, ◌+◌, ◌*◌, drop}
use Rattle.row_sums.specs.Sums.{class_names, number_in}
use Rattle.row_sums.proofs.classes.number_of.Given as goal

abbrev pub invariant-loop-index : goal.invariant-loop-index
invariant-loop-index l = number_in (class_names l.ship.separations) l.name ≡ 2 * l.index + number_in (class_names (drop l.index l.ship.separations)) l.name
