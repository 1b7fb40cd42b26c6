use Rattle.std.proofs.Common.{◌≡◌, ◌++◌, map}
use Rattle.parallel_search.specs.declared.slots.WorkerSlot.TheVariants.{Done}
use Rattle.parallel_search.proofs.threading.all_worker_ends.Given as goal

abbrev pub invariant-loop-slot : goal.invariant-loop-slot
invariant-loop-slot g l = l.fn.slots.items ≡ map (λ k. Done k) l.worker_ends.items ++ l.slot-iterator.rest.items
