use Rattle.std.proofs.Common.{◌≡◌, length}
use Rattle.search_core.specs.Bags.{Every}
use Rattle.shared_search.specs.Rounds.{IsUnused, AreLifo, deques, stolen_from}
use Rattle.shared_search.proofs.opening.make_deques.Given as goal

abbrev pub invariant-loop-number : goal.invariant-loop-number
invariant-loop-number g l = record {
  unused : Every (IsUnused l.fn.room 1024) l.owns.items;
  same : stolen_from l.thieves.items ≡ deques l.owns.items;
  lifo : AreLifo l.thieves.items;
  count : length l.owns.items ≡ l.number;
}
