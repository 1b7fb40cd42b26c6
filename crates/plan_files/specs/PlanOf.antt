-- The plan that the cell groups of a departure file tell, group after group, or the first fault.
use Rattle.std.specs.Prelude.{ℕ, ◌+◌, Bool, true, false, not, ◌&&◌, List, [], ◌∷◌, length, find, replicate, Option, Some, None, Result, Ok, Err, ok_or, if◌then◌else◌, slice_index_or, slice_set}
use Rattle.std.specs.Str.{bytes_eq}
use Rattle.stow_data.specs.declared.cargoes.Container.{Container}
use Rattle.stow_data.specs.Ship.{Ship, places, fits}
use Rattle.stow_data.specs.Shipment.{Cargo, is_aboard}
use Rattle.stow_data.specs.Plans.{Plan, place_at, container_at, container_numbers}
use Rattle.toml_values.specs.Values.{◌>>=◌}
use Rattle.baplie.specs.declared.parts.CellGroup.{CellGroup}
use Rattle.baplie.specs.declared.parts.Facts.{Facts}
use Rattle.arrival_plan.specs.Cells.{place_of, is_taken}
use Rattle.plan_files.specs.DepartureFile.{port_of}
use Rattle.plan_files.specs.declared.file_faults.FileNo.{FileNo}
use Rattle.plan_files.specs.declared.file_faults.FileNo.TheVariants.{NoSuchCell, Unknown, Twice, WrongLength, CellTaken, DischargeDiffers, NotAboard, MissingContainer}
use Rattle.plan_files.specs.declared.standing.Spot.{Spot}
use Rattle.plan_files.specs.declared.standing.Standing.{Standing}
use Rattle.plan_files.specs.Ids.{number_of}

-- a fault where this isn't so
abbrev pub ensure : Bool → FileNo → Result (Unit {0}) FileNo
ensure so fault = if so then Ok tt else Err fault

-- the port is that at which the container leaves
abbrev pub is_bound : Cargo → Container → List ℕ → Bool
is_bound cargo c port = bytes_eq port (port_of cargo c.dest)

-- the container that a group tells of, and its place
unfoldable pub spotted : Ship → Cargo → ℕ → Standing → ℕ → CellGroup → Facts → Result Spot FileNo
spotted ship cargo call before index g f = do
  place ← ok_or (place_of ship (g.bay, g.row, g.tier)) (NoSuchCell (index + 1))
  c ← ok_or (number_of f.id cargo.containers) (Unknown f.id)
  once ← ensure (not (slice_index_or before.placed c false)) (Twice f.id)
  fit ← ensure (fits (place_at ship place) (container_at cargo c).long false) (WrongLength f.id)
  free ← ensure (not (is_taken ship before.plan place)) (CellTaken f.id)
  bound ← ensure (is_bound cargo (container_at cargo c) f.dest) (DischargeDiffers f.id)
  aboard ← ensure (is_aboard call (container_at cargo c)) (NotAboard f.id)
  Ok (record { place = place; container = c })

-- with one container more, at its place
abbrev pub with_spot : Standing → Spot → Standing
with_spot before s = record { plan = slice_set before.plan s.place (Some s.container); placed = slice_set before.placed s.container true }

-- with what a group tells of, by its index from 0; a group without a container tells of nothing
abbrev pub with_facts : Ship → Cargo → ℕ → Standing → ℕ → CellGroup → Option Facts → Result Standing FileNo
with_facts ship cargo call before index g None = Ok before
with_facts ship cargo call before index g (Some f) = spotted ship cargo call before index g f >>= λ s. Ok (with_spot before s)

-- with what these groups tell of, the first having this index
unfoldable pub with_groups : Ship → Cargo → ℕ → Standing → ℕ → List CellGroup → Result Standing FileNo
with_groups ship cargo call before index [] = Ok before
with_groups ship cargo call before index (g ∷ gs) = with_facts ship cargo call before index g g.facts >>= λ after. with_groups ship cargo call after (index + 1) gs

-- nothing stands yet
abbrev pub nothing : Ship → Cargo → Standing
nothing ship cargo = record { plan = replicate (length (places ship)) None; placed = replicate (length cargo.containers) false }

-- what stands where as the groups tell it
abbrev pub standing : Ship → Cargo → ℕ → List CellGroup → Result Standing FileNo
standing ship cargo call groups = with_groups ship cargo call (nothing ship cargo) 0 groups

-- the container is aboard after the call, and doesn't stand anywhere
abbrev pub is_missing : Cargo → ℕ → List Bool → ℕ → Bool
is_missing cargo call placed c = is_aboard call (container_at cargo c) && not (slice_index_or placed c false)

-- the first such container
unfoldable pub first_missing : Cargo → ℕ → List Bool → Option ℕ
first_missing cargo call placed = find (λ c. is_missing cargo call placed c) (container_numbers cargo)

-- a plan on which none is missing
abbrev pub unless_missing : Cargo → Plan → Option ℕ → Result Plan FileNo
unless_missing cargo plan None = Ok plan
unless_missing cargo plan (Some c) = Err (MissingContainer (container_at cargo c).id)

-- the plan of a message's groups
unfoldable pub plan_of : Ship → Cargo → ℕ → List CellGroup → Result Plan FileNo
plan_of ship cargo call groups = standing ship cargo call groups >>= λ s. unless_missing cargo s.plan (first_missing cargo call s.placed)
