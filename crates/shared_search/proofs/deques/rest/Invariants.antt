use Rattle.std.proofs.Common.{◌≡◌, ◌+◌, ℕ, length}
use Rattle.crossbeam_deque.specs.Handles.{worker_view, worker_flavor}
use Rattle.certificate.specs.declared.nodes.Node.{Node}
use Rattle.search_core.specs.Bags.{weigh, Every}
use Rattle.shared_search.proofs.deques.rest.Given as goal

abbrev pub invariant-loop-k : goal.invariant-loop-k
invariant-loop-k g l = record {
  lifo : worker_flavor l.own ≡ 1;
  parts : (worker_view l.own).parts ≡ 1024;
  put : (worker_view l.own).put ≡ (worker_view l.fn.own).put;
  took : (h : Node → ℕ) → weigh h (worker_view l.own).took ≡ weigh h (worker_view l.fn.own).took + weigh h l.rest.items;
  count : length l.rest.items ≡ l.k;
  meets : Every g.M.Wanted.meets l.rest.items;
}
