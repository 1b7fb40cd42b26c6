-- The cargo that bookings make.
use Rattle.std.specs.Prelude.{ℕ, length, map, replicate, None, is_some}
use Rattle.std.specs.List.{enumerate_from}
use Rattle.stow_data.specs.declared.cargoes.Container.{Container}
use Rattle.stow_data.specs.declared.cargoes.Origin.TheVariants.{Booked}
use Rattle.stow_data.specs.Ship.{Ship, places}
use Rattle.stow_data.specs.Shipment.{Cargo}
use Rattle.bookings.specs.declared.shipment.Booking.{Booking}
use Rattle.bookings.specs.declared.shipment.Bookings.{Bookings}

-- the container of a booking, by its index from 0: a reefer where it has a temperature
abbrev pub container_of : ℕ × Booking → Container
container_of b = record { id = b.1.id; load = b.1.load; dest = b.1.dest; long = b.1.long; kg = b.1.kg; reefer = is_some b.1.temperature; class = b.1.class; origin = Booked b.0 }

-- the cargo of bookings: their containers in order, and a ship on which nothing stands at arrival
abbrev pub booked_cargo : Ship → Bookings → Cargo
booked_cargo ship b = record { rotation = b.rotation; tariff = b.tariff; containers = map container_of (enumerate_from 0 b.containers); arrival = replicate (length (places ship)) None }
