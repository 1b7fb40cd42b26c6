use Rattle.std.proofs.Common.{◌≤◌, ◌-◌}
use Rattle.zero_one_rows.specs.Counted.{rows_in}
use Rattle.zero_one_rows.proofs.Found.{Before, After}
use Rattle.zero_one_rows.proofs.row_lists.RowLists.rows_before.Given as goal

abbrev pub invariant-loop-low : goal.invariant-loop-low
invariant-loop-low l = record {
  ordered : l.low ≤ l.high;
  within : l.high ≤ l.all;
  before : Before (rows_in l.self) l.low l.row;
  after : After (rows_in l.self) l.high l.row;
}

abbrev pub decreases-loop-low : goal.decreases-loop-low
decreases-loop-low l = l.high - l.low
