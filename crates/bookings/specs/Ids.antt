-- The ids of bookings.
use Rattle.std.specs.Prelude.{List, ℕ, ◌≡◌}
use Rattle.std.specs.declared.cmp.Ordering.{Ordering}
use Rattle.std.specs.Ordering.{nat_cmp}
use Rattle.std.specs.Cmp.Lexicographic.{slice_cmp}
use Rattle.std.specs.BTreeSet.{BTreeSet, contains}
use Rattle.bookings.specs.declared.shipment.Booking.{Booking}
use Rattle.bookings.specs.Reading.{has_id}

-- the order of names, byte by byte
abbrev pub name_order : List ℕ → List ℕ → Ordering
name_order a b = slice_cmp nat_cmp a b

-- the set has the ids of these bookings, and no others
pub record AreIds (ids : BTreeSet (List ℕ)) (bookings : List Booking) : Type 0 where
  pub same : (id : List ℕ) → contains name_order ids id ≡ has_id id bookings
