-- Numbers by chance: a linear congruence modulo 2^31.
use Rattle.std.specs.Prelude.{ℕ, ◌+◌, ◌-◌, ◌*◌, ◌/◌, ◌%◌, ◌==◌}
use Rattle.stow_gen.specs.declared.draws.Lot.{Lot}

-- the next state
unfoldable pub next : ℕ → ℕ
next state = (state * 1103515245 + 12345) % 2147483648

-- the number below n that a state gives
unfoldable pub below : ℕ → ℕ → ℕ
below n state = (state / 65536) % n

-- what four draws give of a container: its calls, its weight, and whether it is cooled
unfoldable pub lot : ℕ → Lot
lot state =
    let first = next state in
    let second = next first in
    let third = next second in
    let load = 1 + below 5 first in
    record { load = load; dest = load + 1 + below (6 - load) second; kg = 5000 * (1 + below 5 third); cooled = below 20 (next third) == 0 }

-- the state behind four draws
abbrev pub after_lot : ℕ → ℕ
after_lot state = next (next (next (next state)))
