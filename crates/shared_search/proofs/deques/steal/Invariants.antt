use Rattle.std.proofs.Common.{◌≡◌, ◌+◌, ◌≤◌, ◌⊎◌}
use Rattle.crossbeam_deque.specs.Handles.{view, SamePass, taken}
use Rattle.shared_search.specs.Bags.{Found}
use Rattle.shared_search.proofs.deques.steal.Given as goal

abbrev pub invariant-loop-tries : goal.invariant-loop-tries
invariant-loop-tries g l = record {
  same : SamePass l.fn.token l.token;
  known : view l.token ≡ view l.fn.token;
  found : Found g.M.Wanted.meets 1 (view l.fn.token) ⊎ (taken l.fn.token + l.tries ≤ taken l.token);
}
