-- The bookings of the made ship of a number: 120 containers over six calls.
use Rattle.std.specs.Prelude.{ℕ, zero, suc, ◌+◌, Bool, false, codes, negsuc, if◌then◌else◌, List, [], ◌∷◌, ◌++◌, Some, None, replicate}
use Rattle.stow_data.specs.declared.geometry.Length.TheVariants.{Forty}
use Rattle.stow_gen.specs.declared.draws.Lot.{Lot}
use Rattle.stow_gen.specs.Draws.{after_lot, lot}
use Rattle.stow_gen.specs.Words.{seven_digits}
use Rattle.bookings.specs.declared.shipment.Booking.{Booking}
use Rattle.bookings.specs.declared.shipment.Bookings.{Bookings}

-- the id of a container, by its number from 1
abbrev pub id_of : ℕ → List ℕ
id_of number = codes "GENU" ++ seven_digits number

-- the booking of a container of 40 foot with these calls and this weight, at 18 degrees below zero where it is cooled
abbrev pub booking_with : ℕ → ℕ → ℕ → ℕ → Bool → Booking
booking_with number load dest kg cooled = record {
  id = id_of number;
  load = load;
  dest = dest;
  iso = codes "42G1";
  long = Forty;
  kg = kg;
  vgm = false;
  empty = false;
  temperature = if cooled then Some (negsuc 17) else None;
  class = None;
  unno = 0;
}

-- the booking of what was drawn
abbrev pub booking_of_lot : ℕ → Lot → Booking
booking_of_lot number l = booking_with number l.load l.dest l.kg l.cooled

-- so many bookings, of which the first has this number, drawn from this state on
abbrev pub bookings_from : ℕ → ℕ → ℕ → List Booking
bookings_from zero number state = []
bookings_from (suc left) number state = booking_of_lot number (lot state) ∷ bookings_from left (number + 1) (after_lot state)

-- the ports of the six calls
abbrev pub made_rotation : List (List ℕ)
made_rotation = codes "PAAAA" ∷ codes "PBBBB" ∷ codes "PCCCC" ∷ codes "PDDDD" ∷ codes "PEEEE" ∷ codes "PFFFF" ∷ []

-- the bookings of these containers over the six calls
abbrev pub bookings_with : List Booking → Bookings
bookings_with containers = record {
  vessel = codes "FEEDER";
  voyage = codes "1";
  sender = codes "STOW";
  recipient = codes "STOW";
  date = codes "2601010000";
  rotation = made_rotation;
  tariff = replicate 5 1;
  containers = containers;
}

-- the bookings of a number, which is the first state
abbrev pub made_bookings : ℕ → Bookings
made_bookings number = bookings_with (bookings_from 120 1 number)
