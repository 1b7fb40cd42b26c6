use Rattle.std.proofs.Common.{◌≡◌, take}
use Rattle.std.specs.Prelude.{map}
use Rattle.std.specs.List.{enumerate_from}
use Rattle.bookings.specs.BookedCargo.{container_of}
use Rattle.bookings.proofs.cargo.containers_of.Given as goal

abbrev pub invariant-loop-index : goal.invariant-loop-index
invariant-loop-index l = l.containers ≡ map container_of (enumerate_from 0 (take l.index l.bookings))
