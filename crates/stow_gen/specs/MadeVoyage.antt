-- The voyage of the made ship with the bookings of a number; the ship comes in empty.
use Rattle.std.specs.Prelude.{ℕ}
use Rattle.stow_data.specs.Shipment.{Cargo}
use Rattle.bookings.specs.BookedCargo.{booked_cargo}
use Rattle.zero_one_rows.specs.Variables.{Voyage}
use Rattle.stow_gen.specs.MadeShip.{made_ship}
use Rattle.stow_gen.specs.MadeBookings.{made_bookings}

-- the cargo of the bookings of a number
abbrev pub made_cargo : ℕ → Cargo
made_cargo number = booked_cargo made_ship (made_bookings number)

-- the voyage of the made ship with any cargo
abbrev pub voyage_with : Cargo → Voyage
voyage_with cargo = record { ship = made_ship; cargo = cargo }

-- the voyage of a number, whose 0-1 program is the question
abbrev pub made_voyage : ℕ → Voyage
made_voyage number = voyage_with (made_cargo number)
