-- A ship that comes in empty: the cargo is that of the bookings, and its arrival is legal.
use Rattle.std.proofs.Common.{◌≡◌, ℕ, ◌+◌, ◌<◌, List, [], ◌∷◌, length, refl, arith}
use Rattle.std.specs.Prelude.{Ok, map}
use Rattle.std.specs.List.{enumerate_from}
use Rattle.stow_data.specs.Ship.{Ship}
use Rattle.stowage_rules.specs.Plan.{Holds}
use Rattle.bookings.specs.declared.shipment.Booking.{Booking}
use Rattle.bookings.specs.declared.shipment.Bookings.{Bookings}
use Rattle.bookings.specs.BookedCargo.{booked_cargo, container_of}
use Rattle.bookings.specs.Rules.{IsBookings}
use Rattle.arrival_plan.specs.Arriving.{cargo_with, nothing, with_groups}
use Rattle.arrival_plan.specs.Settled.{KeepsAsked, Settles}
use Rattle.arrival_plan.proofs.Legal.{arrives}
use Rattle.arrival_plan.proofs.Sound.{sound_first}

nothing_held : (ship : Ship) (b : Bookings) (p c : ℕ) → Holds (nothing ship).plan p c → ⊥
nothing_held ship b p c h =
    let sound = sound_first ship b in
    let low : c < 0 = sound.known p c h in
    absurd (omega (arith, low))

empty_keeps : (ship : Ship) (b : Bookings) → KeepsAsked ship (cargo_with ship b (nothing ship)) (nothing ship).plan
empty_keeps ship b = record {
  supported = λ stack tier aft c f. absurd (nothing_held ship b f.number c f.holds);
  twenty = λ stack tier aft c d x y t. absurd (nothing_held ship b x.number c x.holds);
  plugged = λ p c place container s reefer. absurd (nothing_held ship b p c s.holds);
}

booked_count : (n : ℕ) (bs : List Booking) → length (map container_of (enumerate_from n bs)) ≡ length bs
booked_count n [] = refl
booked_count n (b ∷ bs) = let more = booked_count (n + 1) bs in omega (arith, more)

pub empty_settles : (ship : Ship) (b : Bookings) → IsBookings b → Settles ship b [] (Ok (booked_cargo ship b))
unfolding with_groups
empty_settles ship b rules =
    let count = booked_count 0 b.containers in
    let few = rules.few in
    (refl, arrives ship b rules (nothing ship) (sound_first ship b) (empty_keeps ship b), omega (arith, count, few))
