-- Where the container of a cell group goes: its place, whether something is in the way, and its call.
use Rattle.std.specs.Prelude.{ℕ, ◌+◌, ◌==◌, ◌&&◌, Bool, List, Option, position, is_some, option_map, slice_index_or}
use Rattle.std.specs.List.{list_any}
use Rattle.std.specs.Str.{bytes_eq}
use Rattle.stow_data.specs.declared.geometry.Place.{Place}
use Rattle.stow_data.specs.Ship.{Ship, TakesSide, half_at, number_in, places}
use Rattle.stow_data.specs.Plans.{Plan, held, no_stack, place_at, place_numbers}
use Rattle.stow_data.specs.Near.{meets}
use Rattle.stowage_rules.specs.Places.{IsTaken}

-- bay, row and tier number of a place
abbrev pub cell_of : Ship → Place → ℕ × ℕ × ℕ
cell_of ship place = number_in (slice_index_or ship.stacks place.stack no_stack) place

abbrev pub is_same_cell : ℕ × ℕ × ℕ → ℕ × ℕ × ℕ → Bool
is_same_cell a b = (a.0 == b.0) && ((a.1 == b.1) && (a.2 == b.2))

-- the place of a bay, row and tier number
unfoldable pub place_of : Ship → ℕ × ℕ × ℕ → Option ℕ
place_of ship cell = position (λ place. is_same_cell (cell_of ship place) cell) (places ship)

-- something stands at a place that has a half-cell in common with place p
unfoldable pub is_taken : Ship → Plan → ℕ → Bool
is_taken ship plan p = list_any (λ q. is_some (held plan q) && meets (place_at ship p) (place_at ship q)) (place_numbers ship)

-- the first call of a port, from call 1 on
unfoldable pub first_call : List ℕ → List (List ℕ) → Option ℕ
first_call port rotation = option_map (λ k. k + 1) (position (λ name. bytes_eq name port) rotation)

-- something fills the half-cell of a place on one side
abbrev pub IsTakenOn : Ship → Plan → Place → Bool → Type 0
IsTakenOn ship plan place side = TakesSide place.span side × IsTaken ship plan (half_at place side)
