use Rattle.std.proofs.Common.{◌≡◌, ℕ, ◌+◌, ◌++◌, length, map}
use Rattle.zero_one_rows.specs.Variables.{Voyage}
use Rattle.search_core.specs.Bags.{Every}
use Rattle.parallel_search.specs.Ends.{AreOwn, BringsOwn, IsWorkerEnd, IsEnd, pass_of}
use Rattle.parallel_search.proofs.joining.take_in_each.Given as goal

abbrev pub invariant-loop-worker_end : goal.invariant-loop-worker_end
invariant-loop-worker_end g l = record {
  board : l.owner.board ≡ l.fn.owner.board;
  made : l.owner.view.made ≡ l.fn.owner.view.made;
  taken : l.owner.view.taken + length l.worker_end-iterator.rest.items ≡ l.fn.owner.view.taken + length l.fn.worker_ends.items;
  seats : Every (λ j. j.seat.board ≡ l.board.id) l.worker_end-iterator.rest.items;
  passes : l.ended.passes.items ++ map pass_of l.worker_end-iterator.rest.items ≡ l.fn.ended.passes.items ++ map pass_of l.fn.worker_ends.items;
  own : (room : ℕ) → AreOwn room l.fn.ended → Every (BringsOwn room) l.fn.worker_ends.items → AreOwn room l.ended × Every (BringsOwn room) l.worker_end-iterator.rest.items;
  end : (m : Voyage) → IsEnd g.M.Wanted.meets l.board m l.fn.owner.view l.fn.ended → Every (IsWorkerEnd g.M.Wanted.meets l.board m) l.fn.worker_ends.items
      → IsEnd g.M.Wanted.meets l.board m l.owner.view l.ended × Every (IsWorkerEnd g.M.Wanted.meets l.board m) l.worker_end-iterator.rest.items;
}
