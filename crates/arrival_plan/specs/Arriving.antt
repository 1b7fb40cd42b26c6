-- What the cell groups of a bay plan bring aboard, group after group, or the first fault.
use Rattle.std.specs.Prelude.{ℕ, ◌+◌, Bool, false, not, List, [], ◌∷◌, ◌++◌, length, replicate, Option, Some, None, Result, Ok, Err, ok_or, if◌then◌else◌, slice_set}
use Rattle.stow_data.specs.declared.cargoes.Container.{Container}
use Rattle.stow_data.specs.declared.cargoes.Origin.TheVariants.{Arrived}
use Rattle.stow_data.specs.Ship.{Ship, places, fits}
use Rattle.stow_data.specs.Shipment.{Cargo}
use Rattle.stow_data.specs.Plans.{place_at}
use Rattle.toml_values.specs.Values.{◌>>=◌}
use Rattle.bookings.specs.declared.shipment.Bookings.{Bookings}
use Rattle.bookings.specs.BookedCargo.{booked_cargo}
use Rattle.baplie.specs.declared.parts.CellGroup.{CellGroup}
use Rattle.baplie.specs.declared.parts.Facts.{Facts}
use Rattle.arrival_plan.specs.declared.faults.ArrivalFault.{ArrivalFault}
use Rattle.arrival_plan.specs.declared.faults.ArrivalFault.TheVariants.{NoSuchCell, WrongLength, Twice, NotInRotation, CellTaken}
use Rattle.arrival_plan.specs.declared.stowage.Placed.{Placed}
use Rattle.arrival_plan.specs.declared.stowage.Stowage.{Stowage}
use Rattle.arrival_plan.specs.Cells.{place_of, is_taken, first_call}
use Rattle.arrival_plan.specs.Ids.{is_named}

-- a fault where this isn't so
abbrev pub ensure : Bool → ArrivalFault → Result (Unit {0}) ArrivalFault
ensure so fault = if so then Ok tt else Err fault

-- the container of a group by its index from 0, bound for a call
abbrev pub container_of : ℕ → Facts → ℕ → Container
container_of index f call = record { id = f.id; load = 0; dest = call; long = f.long; kg = f.kg; reefer = f.reefer; class = f.class; origin = Arrived index }

-- the container that a group tells of, bound for the first call of its port, at the place of its cell
unfoldable pub placed : Ship → Bookings → Stowage → ℕ → CellGroup → Facts → Result Placed ArrivalFault
placed ship bookings before index g f = let group = index + 1 in do
  place ← ok_or (place_of ship (g.bay, g.row, g.tier)) (NoSuchCell group)
  fit ← ensure (fits (place_at ship place) f.long false) (WrongLength group)
  once ← ensure (not (is_named f.id bookings.containers before.containers)) (Twice f.id)
  call ← ok_or (first_call f.dest bookings.rotation) (NotInRotation group)
  free ← ensure (not (is_taken ship before.plan place)) (CellTaken group)
  Ok (record { place = place; container = container_of index f call })

-- with one container more, at its place
abbrev pub with_placed : Stowage → Placed → Stowage
with_placed before p = record { containers = before.containers ++ p.container ∷ []; plan = slice_set before.plan p.place (Some (length before.containers)) }

-- with what a group tells of, by its index from 0; a group without a container brings nothing
abbrev pub with_facts : Ship → Bookings → Stowage → ℕ → CellGroup → Option Facts → Result Stowage ArrivalFault
with_facts ship bookings before index g None = Ok before
with_facts ship bookings before index g (Some f) = placed ship bookings before index g f >>= λ p. Ok (with_placed before p)

-- with what these groups tell of, the first having this index
unfoldable pub with_groups : Ship → Bookings → Stowage → ℕ → List CellGroup → Result Stowage ArrivalFault
with_groups ship bookings before index [] = Ok before
with_groups ship bookings before index (g ∷ gs) = with_facts ship bookings before index g g.facts >>= λ after. with_groups ship bookings after (index + 1) gs

-- nothing aboard
abbrev pub nothing : Ship → Stowage
nothing ship = record { containers = []; plan = replicate (length (places ship)) None }

-- what stands aboard as the groups of a bay plan tell it
abbrev pub arriving : Ship → Bookings → List CellGroup → Result Stowage ArrivalFault
arriving ship bookings groups = with_groups ship bookings (nothing ship) 0 groups

-- the cargo: what stands aboard, and then the containers of the bookings
abbrev pub cargo_with : Ship → Bookings → Stowage → Cargo
cargo_with ship bookings s = record { rotation = bookings.rotation; tariff = bookings.tariff; containers = s.containers ++ (booked_cargo ship bookings).containers; arrival = s.plan }
