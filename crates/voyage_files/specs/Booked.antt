-- A ship with its bookings and the cargo that they make.
use Rattle.std.specs.Prelude.{ℕ, ◌≤◌, ◌^◌, List, length, Option, Some, None, Ok}
use Rattle.stow_data.specs.Profile.{IsShip}
use Rattle.stow_data.specs.Shipment.{IsCargo}
use Rattle.bookings.specs.Rules.{IsBookings}
use Rattle.baplie.specs.declared.parts.Message.{Message}
use Rattle.baplie.specs.Messages.{IsMessageOf}
use Rattle.arrival_plan.specs.Settled.{Settles, groups_of}
use Rattle.voyage_files.specs.declared.voyage.BookedVoyage.{BookedVoyage}

-- the message is that of a text of at most 2^29 bytes
pub record HasText (message : Message) : Type 0 where
  pub bytes : List ℕ
  pub short : length bytes ≤ 2 ^ 29
  pub is_message : IsMessageOf bytes message

-- the bay plan, if there is one, was read from a text
abbrev pub WasRead : Option Message → Type 0
WasRead None = Unit {0}
WasRead (Some message) = HasText message

-- a ship and bookings, each of which obeys its rules, a bay plan that was read, and the cargo that is settled with them
pub record IsBooked (v : BookedVoyage) : Type 0 where
  pub ship_rules : IsShip v.ship
  pub rules : IsBookings v.bookings
  pub read : WasRead v.message
  pub cargo_rules : IsCargo v.cargo
  pub settled : Settles v.ship v.bookings (groups_of v.message) (Ok v.cargo)
