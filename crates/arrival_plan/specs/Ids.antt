-- The ids of bookings and of what is aboard.
use Rattle.std.specs.Prelude.{ℕ, ◌≡◌, ◌||◌, Bool, List}
use Rattle.std.specs.List.{list_any}
use Rattle.std.specs.Str.{bytes_eq}
use Rattle.std.specs.BTreeSet.{BTreeSet, contains}
use Rattle.stow_data.specs.declared.cargoes.Container.{Container}
use Rattle.bookings.specs.declared.shipment.Booking.{Booking}
use Rattle.bookings.specs.Ids.{name_order}
use Rattle.bookings.specs.Reading.{has_id}

-- a booking or a container has the id
abbrev pub is_named : List ℕ → List Booking → List Container → Bool
is_named id bookings containers = has_id id bookings || list_any (λ c. bytes_eq c.id id) containers

-- the set has the ids of these bookings and containers, and no others
pub record AreNames (ids : BTreeSet (List ℕ)) (bookings : List Booking) (containers : List Container) : Type 0 where
  pub same : (id : List ℕ) → contains name_order ids id ≡ is_named id bookings containers
