use Rattle.std.proofs.Common.{◌≡◌, ◌-◌, length}
use Rattle.search_core.specs.Bags.{Every}
use Rattle.shared_search.specs.Rounds.{FitsNew, IsUnused, deques}
use Rattle.shared_search.specs.Bags.{Each}
use Rattle.shared_search.proofs.opening.deal_all.Given as goal

abbrev pub invariant-loop-row : goal.invariant-loop-row
invariant-loop-row g l = record {
  unused : Every (IsUnused l.fn.room (1024 - l.row)) l.owns.items;
  same : deques l.owns.items ≡ deques l.fn.owns.items;
  fit : Every (λ row. Each FitsNew (deques l.fn.owns.items) row.items) l.rows.items;
  count : length l.rows.items ≡ l.row;
}
