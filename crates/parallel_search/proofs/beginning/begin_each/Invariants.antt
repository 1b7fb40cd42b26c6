use Rattle.std.proofs.Common.{◌≡◌, ◌+◌, ◌≤◌, ◌++◌, length, map}
use Rattle.search_core.specs.Bags.{Every}
use Rattle.shared_search.specs.Racks.{IsPassAt, IsFresh, number_of}
use Rattle.parallel_search.specs.Ends.{IsWorkerStart, start_number}
use Rattle.parallel_search.specs.Starts.{IsMaker}
use Rattle.parallel_search.proofs.beginning.begin_each.Given as goal

abbrev pub invariant-loop-pass : goal.invariant-loop-pass
invariant-loop-pass g l = record {
  maker : IsMaker g.M.Wanted.meets l.shared.board l.shared.spare l.owner;
  made : l.owner.view.made + length l.pass-iterator.rest.items ≡ l.fn.owner.view.made + length l.fn.passes.items;
  passes : Every (IsPassAt l.shared.rack) l.pass-iterator.rest.items;
  fresh : Every IsFresh l.pass-iterator.rest.items;
  solvers : Every (λ solver. solver ≡ l.shared.spare) l.solvers.items;
  enough : length l.pass-iterator.rest.items ≤ length l.solvers.items;
  worker_starts : Every (IsWorkerStart g.M.Wanted.meets l.shared.rack l.shared.board l.shared.spare) l.worker_starts.items;
  numbers : map start_number l.worker_starts.items ++ map number_of l.pass-iterator.rest.items ≡ map number_of l.fn.passes.items;
}
