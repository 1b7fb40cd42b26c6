-- The departure file of a call: the message that tells a plan, and its text (ISO 9735, SMDG BAPLIE 2.2).
use Rattle.std.specs.Prelude.{ℕ, ◌≡◌, ◌⊎◌, ◌+◌, ◌-◌, ◌^◌, ◌<◌, ◌≤◌, false, codes, List, [], ◌∷◌, ◌++◌, length, drop, flat_map, Option, Some, None, is_some, slice_index_or}
use Rattle.edifact_segments.specs.declared.segments.Segment.{Segment}
use Rattle.edifact_segments.specs.Written.{written}
use Rattle.stow_data.specs.declared.geometry.Length.TheVariants.{Forty}
use Rattle.stow_data.specs.declared.cargoes.Container.{Container}
use Rattle.stow_data.specs.declared.cargoes.Origin.{Origin}
use Rattle.stow_data.specs.declared.cargoes.Origin.TheVariants.{Arrived, Booked}
use Rattle.stow_data.specs.Ship.{Ship, number_in}
use Rattle.stow_data.specs.Shipment.{Cargo}
use Rattle.stow_data.specs.Plans.{Plan, place_at, container_at, held, place_numbers, no_stack}
use Rattle.plan_files.specs.Shown as shown
use Rattle.bookings.specs.declared.shipment.Booking.{Booking}
use Rattle.bookings.specs.declared.shipment.Bookings.{Bookings}
use Rattle.baplie.specs.declared.parts.Facts.{Facts}
use Rattle.baplie.specs.declared.parts.CellGroup.{CellGroup}
use Rattle.baplie.specs.declared.parts.Message.{Message}
use Rattle.baplie.specs.Messages.{IsMessageOf}
use Rattle.baplie.specs.Segments.{element, component}
use Rattle.baplie.specs.Whole.{segments_of}
use Rattle.plan_files.specs.DepartureSegments.{segment, one, cell_text, unb, unh, bgm, dtm, tdt, loc, cell_segment, mea, temperature_segments, rff, eqd, goods_segments}

-- the port of a call
abbrev pub port_of : Cargo → ℕ → List ℕ
port_of cargo call = slice_index_or cargo.rotation (call - 1) []

-- bay, row and tier number of a place
abbrev pub number_at : Ship → ℕ → ℕ × ℕ × ℕ
number_at ship p = number_in (slice_index_or ship.stacks (place_at ship p).stack no_stack) (place_at ship p)

-- ## What tells of a container

-- a booking tells of the container, or a group of the bay plan of the ship as it came in
abbrev pub IsTold : Bookings → List CellGroup → Origin → Type 0
IsTold bookings arrived (Booked k) = k < length bookings.containers
IsTold bookings arrived (Arrived k) = k < length arrived

-- what stands for a booking, or a group, that there isn't
abbrev pub no_booking : Booking
no_booking = record { id = []; load = 0; dest = 0; iso = []; long = Forty; kg = 0; vgm = false; empty = false; temperature = None; class = None; unno = 0 }

abbrev pub no_group : CellGroup
no_group = record { bay = 0; row = 0; tier = 0; facts = None; segments = [] }

-- ## The cell group of a booked container

-- a container in its cell, with its booking
pub record Group : Type 0 where
  pub cell : shown.CellGroup
  pub load_port : List ℕ
  pub booking : Booking
  pub kg : ℕ

-- what a container at a place shows
abbrev pub cell_at : Ship → Cargo → ℕ → Container → shown.CellGroup
cell_at ship cargo p c = record { bay = (number_at ship p).0; row = (number_at ship p).1; tier = (number_at ship p).2; id = c.id; port = port_of cargo c.dest }

-- of this booking
abbrev pub booked_group : Ship → Cargo → Booking → ℕ → Container → Group
booked_group ship cargo booking p c = record { cell = cell_at ship cargo p c; load_port = port_of cargo c.load; booking = booking; kg = c.kg }

-- the segments of a container in its cell
unfoldable pub group_segments : Group → List Segment
group_segments g =
    cell_segment (g.cell.bay, g.cell.row, g.cell.tier)
    ∷ mea g.booking.vgm g.kg
    ∷ temperature_segments g.booking.temperature
    ++ loc (codes "9") g.load_port
    ∷ loc (codes "11") g.cell.port
    ∷ rff
    ∷ eqd g.cell.id g.booking.iso g.booking.empty
    ∷ goods_segments g.booking.class g.booking.unno

-- what they tell of the container: a reefer has a temperature, and dangerous goods have a class
abbrev pub facts_of : Group → Facts
facts_of g = record {
  id = g.cell.id;
  iso = g.booking.iso;
  long = g.booking.long;
  empty = g.booking.empty;
  kg = g.kg;
  reefer = is_some g.booking.temperature;
  class = g.booking.class;
  dest = g.cell.port;
}

abbrev pub cell_group_of : Group → CellGroup
cell_group_of g = record { bay = g.cell.bay; row = g.cell.row; tier = g.cell.tier; facts = Some (facts_of g); segments = group_segments g }

-- ## The cell group of a container that stood aboard as the ship came in

-- its LOC+147 in another cell: only the cell text is new, and an absent agency becomes 5
abbrev pub moved_segment : ℕ × ℕ × ℕ → Segment → Segment
moved_segment cell s = segment (codes "LOC") (one (codes "147") ∷ (cell_text cell ∷ component s 2 2 ∷ codes "5" ∷ drop 3 (element s 2)) ∷ drop 2 s.elements)

-- all others stay
abbrev pub moved_segments : ℕ × ℕ × ℕ → List Segment → List Segment
moved_segments cell [] = []
moved_segments cell (s ∷ ss) = moved_segment cell s ∷ ss

abbrev pub moved : ℕ × ℕ × ℕ → CellGroup → CellGroup
moved cell g = record { bay = cell.0; row = cell.1; tier = cell.2; facts = g.facts; segments = moved_segments cell g.segments }

-- ## The cell groups of a plan

abbrev pub group_by : Ship → Cargo → Bookings → List CellGroup → ℕ → Container → Origin → CellGroup
group_by ship cargo bookings arrived p c (Booked k) = cell_group_of (booked_group ship cargo (slice_index_or bookings.containers k no_booking) p c)
group_by ship cargo bookings arrived p c (Arrived k) = moved (number_at ship p) (slice_index_or arrived k no_group)

-- the group of what stands at a place
abbrev pub group_at : Ship → Cargo → Bookings → List CellGroup → ℕ → Option ℕ → List CellGroup
group_at ship cargo bookings arrived p None = []
group_at ship cargo bookings arrived p (Some c) = group_by ship cargo bookings arrived p (container_at cargo c) (container_at cargo c).origin ∷ []

-- the groups of a plan, in the order of their places
unfoldable pub groups : Ship → Cargo → Bookings → List CellGroup → Plan → List CellGroup
groups ship cargo bookings arrived plan = flat_map (λ p. group_at ship cargo bookings arrived p (held plan p)) (place_numbers ship)

-- what a plan shows
abbrev pub shown_from : Ship → Cargo → ℕ → Option ℕ → List shown.CellGroup
shown_from ship cargo p None = []
shown_from ship cargo p (Some c) = cell_at ship cargo p (container_at cargo c) ∷ []

unfoldable pub cells : Ship → Cargo → Plan → List shown.CellGroup
cells ship cargo plan = flat_map (λ p. shown_from ship cargo p (held plan p)) (place_numbers ship)

-- ## The bay plan of the ship as it comes in

-- the groups of the message of a text
pub record AreOf (groups : List CellGroup) (bytes : List ℕ) : Type 0 where
  pub message : Message
  pub short : length bytes ≤ 2 ^ 29
  pub is_message : IsMessageOf bytes message
  pub are_groups : groups ≡ message.groups

-- no groups where there is no bay plan, else those of a message that was read
abbrev pub AreArrived : List CellGroup → Type 0
AreArrived groups = (groups ≡ []) ⊎ ((bytes : List ℕ) × AreOf groups bytes)

-- ## The file

-- the segments between UNH and the first group
unfoldable pub head : Cargo → Bookings → ℕ → List Segment
head cargo bookings call =
    bgm call ∷ dtm (codes "137") bookings.date ∷ tdt bookings.voyage bookings.vessel
    ∷ loc (codes "5") (port_of cargo call) ∷ loc (codes "61") (port_of cargo (call + 1)) ∷ dtm (codes "133") bookings.date ∷ []

-- UNB, UNH, the head and the groups
abbrev pub message_of : Cargo → Bookings → ℕ → List CellGroup → Message
message_of cargo bookings call gs = record { service = unb bookings call; title = unh; head = head cargo bookings call; groups = gs }

-- the text of the file: that of the message, from UNB to UNZ
unfoldable pub file_text : Cargo → Bookings → ℕ → List CellGroup → List ℕ
file_text cargo bookings call gs = flat_map written (segments_of (message_of cargo bookings call gs))
