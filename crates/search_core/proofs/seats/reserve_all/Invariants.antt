use Rattle.std.proofs.Common.{◌≡◌, ℕ, ◌≤◌, map, take, length}
use Rattle.search_core.specs.Bags.{Every}
use Rattle.search_core.specs.Rooms.{worker_of}
use Rattle.search_core.proofs.seats.reserve_all.Given as goal

abbrev pub invariant-loop-at : goal.invariant-loop-at
invariant-loop-at l =
    (map worker_of l.seats.items ≡ map worker_of l.initial.seats.items)
    × (length l.seats.items ≡ length l.initial.seats.items)
    × Every (λ s. l.nodes ≤ s.room) (take l.at l.seats.items)
    × ((n : ℕ) → Every (λ s. n ≤ s.room) l.initial.seats.items → Every (λ s. n ≤ s.room) l.seats.items)
