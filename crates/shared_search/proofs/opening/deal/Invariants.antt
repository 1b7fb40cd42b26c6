use Rattle.std.proofs.Common.{◌≡◌, ◌++◌, ◌-◌}
use Rattle.search_core.specs.Bags.{Every}
use Rattle.shared_search.specs.Rounds.{FitsNew, IsUnused, deques}
use Rattle.shared_search.specs.Bags.{Each}
use Rattle.shared_search.proofs.opening.deal.Given as goal

abbrev pub invariant-loop-own : goal.invariant-loop-own
invariant-loop-own g l = record {
  out : Every (IsUnused l.room (l.held - 1)) l.out.items;
  rest : Every (IsUnused l.room l.held) l.own-iterator.rest.items;
  same : deques l.out.items ++ deques l.own-iterator.rest.items ≡ deques l.fn.owns.items;
  fit : Each FitsNew (deques l.out.items) l.tokens.items;
}
