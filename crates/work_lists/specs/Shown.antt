-- What is printed of the tasks of cranes.
use Rattle.std.specs.Prelude.{ℕ, List, [], map, Option, Some, None, slice_get, slice_index_or}
use Rattle.stow_data.specs.declared.geometry.Place.{Place}
use Rattle.stow_data.specs.Ship.{Ship, places, number_in}
use Rattle.stow_data.specs.Shipment.{Cargo}
use Rattle.stow_data.specs.Plans.{container_at, no_stack}
use Rattle.voyage_meaning.specs.declared.moves.Move.{Move}
use Rattle.voyage_meaning.specs.declared.moves.Move.TheVariants as moves
use Rattle.crane_lists.specs.declared.tasks.Task.{Task}
use Rattle.crane_lists.specs.Rounds.{task_at}
use Rattle.stow_report.specs.declared.crane_lists.CraneMove.{CraneMove}
use Rattle.stow_report.specs.declared.crane_lists.CraneMove.TheVariants.{Lift, Put, Off, On}

-- bay, row and tier number of a place of a ship, and of the place of a number: that of a 20-foot container has the odd bay
abbrev pub number_of : Ship → Option Place → ℕ × ℕ × ℕ
number_of ship None = (0, 0, 0)
number_of ship (Some place) = number_in (slice_index_or ship.stacks place.stack no_stack) place

abbrev pub cell_of : Ship → ℕ → ℕ × ℕ × ℕ
cell_of ship p = number_of ship (slice_get (places ship) p)

-- the number of a container, if there is one
abbrev pub id_of : Cargo → Option ℕ → List ℕ
id_of cargo None = []
id_of cargo (Some c) = (container_at cargo c).id

-- what a crane does with a container
abbrev pub shown_by : Ship → Cargo → Move → Option ℕ → CraneMove
shown_by ship cargo (moves.Lift p) c = Lift (cell_of ship p) (id_of cargo c)
shown_by ship cargo (moves.Put b p) c = Put (cell_of ship p) (id_of cargo c)
shown_by ship cargo (moves.OffCover k) c = Off k
shown_by ship cargo (moves.OnCover k) c = On k

abbrev pub shown : Ship → Cargo → Task → CraneMove
shown ship cargo t = shown_by ship cargo t.step t.container

-- the tasks of a round, by their places in the list, and those of all rounds
abbrev pub shown_round : Ship → Cargo → List Task → List ℕ → List CraneMove
shown_round ship cargo ts round = map (λ i. shown ship cargo (task_at ts i)) round

abbrev pub shown_rounds : Ship → Cargo → List Task → List (List ℕ) → List (List CraneMove)
shown_rounds ship cargo ts rounds = map (shown_round ship cargo ts) rounds
