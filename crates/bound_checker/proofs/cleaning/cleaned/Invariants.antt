use Rattle.std.proofs.Common.{◌≡◌}
use Rattle.std.specs.Map.{keys_of}
use Rattle.std.specs.List.Sorted.{IsStrictlySortedBy}
use Rattle.zero_one_rows.specs.declared.program.Row.{Row}
use Rattle.zero_one_rows.specs.contracts.program.RowOrd.TheImpl as order
use Rattle.proof_trees.specs.Multipliers.{Multipliers}
use Rattle.dual_bound.specs.Costs.{Priced}
use Rattle.bound_checker.specs.Sums.{AreAmounts}
use Rattle.bound_checker.proofs.cleaning.cleaned.Given as goal

abbrev pub invariant-loop-row : goal.invariant-loop-row
invariant-loop-row l = record {
  rows : l.rows ≡ l.fn.rows;
  sorted : IsStrictlySortedBy order.ghosts.cmp (keys_of l.row-iterator);
  left : (ns : Multipliers Row) × Priced l.model l.zero ns l.clean × AreAmounts l.row-iterator ns;
}
