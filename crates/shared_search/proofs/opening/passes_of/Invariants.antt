use Rattle.std.proofs.Common.{◌≡◌, ◌++◌, length, map}
use Rattle.search_core.specs.Bags.{Every}
use Rattle.shared_search.specs.Racks.{count_from, number_of}
use Rattle.shared_search.specs.Rounds.{own_of, row_of, HasNoMiss}
use Rattle.shared_search.proofs.opening.passes_of.Given as goal

abbrev pub invariant-loop-own : goal.invariant-loop-own
invariant-loop-own g l = record {
  owns : map own_of l.passes.items ++ l.own-iterator.rest.items ≡ l.fn.dealt.owns.items;
  rows : map row_of l.passes.items ++ map (λ row. row.items) l.rows.rest.items ≡ map (λ row. row.items) l.fn.dealt.rows.items;
  numbers : map number_of l.passes.items ≡ count_from 0 (length l.passes.items);
  counts : Every (HasNoMiss (length l.fn.dealt.owns.items)) l.passes.items;
  workers : l.workers ≡ length l.fn.dealt.owns.items;
  left : length l.rows.rest.items ≡ length l.own-iterator.rest.items;
}
