use Rattle.std.proofs.Common.{◌≡◌, ◌++◌, map}
use Rattle.parallel_search.specs.declared.slots.WorkerSlot.TheVariants.{Given}
use Rattle.parallel_search.proofs.threading.give_all.Given as goal

abbrev pub invariant-loop-worker_start : goal.invariant-loop-worker_start
invariant-loop-worker_start g l = l.slots.items ++ map (λ p. Given p) l.worker_start-iterator.rest.items ≡ map (λ p. Given p) l.fn.worker_starts.items
