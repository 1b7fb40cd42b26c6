use Rattle.std.proofs.Common.{◌≡◌, replicate, map}
use Rattle.search_core.specs.Machine.{idle}
use Rattle.search_core.specs.Rooms.{worker_of}
use Rattle.search_core.proofs.seats.idle_seats.Given as goal

abbrev pub invariant-loop-worker : goal.invariant-loop-worker
invariant-loop-worker l = map worker_of l.seats.items ≡ replicate l._worker idle
