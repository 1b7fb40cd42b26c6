use Rattle.std.proofs.Common.{◌≡◌, ◌++◌, map}
use Rattle.search_core.specs.Bags.{Every}
use Rattle.shared_search.specs.Racks.{IsPassAt, number_of}
use Rattle.shared_search.specs.Tallies.{did_of, did_by}
use Rattle.shared_search.proofs.tally.tally_of.Given as goal

abbrev pub invariant-loop-pass : goal.invariant-loop-pass
invariant-loop-pass g l = record {
  out : Every (IsPassAt l.fn.rack) l.out.items;
  rest : Every (IsPassAt l.fn.rack) l.pass-iterator.rest.items;
  numbers : map number_of l.out.items ++ map number_of l.pass-iterator.rest.items ≡ map number_of l.fn.passes.items;
  same : map did_of l.out.items ++ map did_of l.pass-iterator.rest.items ≡ map did_of l.fn.passes.items;
  known : map did_by l.workers.items ≡ map did_of l.out.items;
}
