-- What bookings obey that were read.
use Rattle.std.specs.Prelude.{All, AllPairs, IfSome, IsTrue, Some, length, negsuc, pos, ℕ, ◌+◌, ◌<◌, ◌≡◌, ◌≢◌, ◌≤ℤ◌, ◌≤◌}
use Rattle.stow_data.specs.Profile.{is_class, is_name}
use Rattle.stow_data.specs.Types.{length_of_type}
use Rattle.toml_values.specs.Values.{is_code, is_digits}
use Rattle.bookings.specs.declared.shipment.Booking.{Booking}
use Rattle.bookings.specs.declared.shipment.Bookings.{Bookings}

-- what a booking obeys in a rotation of so many calls
pub record IsBooking (calls : ℕ) (b : Booking) : Type 0 where
  pub identified : IsTrue (is_code 17 b.id)
  pub from_first : 1 ≤ b.load
  pub later : b.load < b.dest
  pub in_rotation : b.dest ≤ calls
  pub typed : IsTrue (is_code 10 b.iso)
  pub long : length_of_type b.iso ≡ Some b.long
  pub kg_to : b.kg ≤ 99999
  pub temperature_from : IfSome b.temperature (λ t. negsuc 98 ≤ℤ t)
  pub temperature_to : IfSome b.temperature (λ t. t ≤ℤ pos 99)
  pub classed : IfSome b.class (λ c. IsTrue (is_class c))
  pub unno_to : b.unno ≤ 9999

-- what bookings obey
pub record IsBookings (b : Bookings) : Type 0 where
  pub vessel_named : IsTrue (is_name b.vessel)
  pub voyage_named : IsTrue (is_name b.voyage)
  pub sender_named : IsTrue (is_name b.sender)
  pub recipient_named : IsTrue (is_name b.recipient)
  pub dated : IsTrue (is_digits 10 b.date)
  pub calls_from : 2 ≤ length b.rotation
  pub calls_to : length b.rotation ≤ 12
  pub each_port : All (λ port. IsTrue (is_code 35 port)) b.rotation
  pub each_priced : length b.tariff + 1 ≡ length b.rotation
  pub prices_to : All (λ price. price ≤ 1000) b.tariff
  pub few : length b.containers ≤ 2000
  pub ids_differ : AllPairs (λ c d. c.id ≢ d.id) b.containers
  pub each_booking : All (IsBooking (length b.rotation)) b.containers
