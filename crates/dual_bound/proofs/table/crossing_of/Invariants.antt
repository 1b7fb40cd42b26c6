use Rattle.std.proofs.Common.{◌≡◌, ◌+◌, length}
use Rattle.zero_one_rows.specs.Counted.{base_rows}
use Rattle.dual_bound.specs.Kept.{AreCrossing}
use Rattle.dual_bound.proofs.table.crossing_of.Given as goal

abbrev pub invariant-loop-number : goal.invariant-loop-number
invariant-loop-number l = record {
  lists : length (base_rows l.model) + length l.lists ≡ l.number;
  kept : AreCrossing l.model l.lists;
}
