-- A voyage for tests that look at workers alone.
use Rattle.std.specs.Prelude.{[], ◌∷◌}
use Rattle.zero_one_rows.specs.Variables.{Voyage}

-- two calls and no containers, on a ship without stacks
abbrev pub empty_voyage : Voyage
empty_voyage = record { ship = record { name = []; weight_step = 1; stacks = []; covers = []; separations = [] }; cargo = record { rotation = [] ∷ [] ∷ []; tariff = 1 ∷ []; containers = []; arrival = [] } }
