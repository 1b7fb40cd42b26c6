-- What the cargo of bookings obeys.
use Rattle.std.proofs.Common.{◌≡◌, ◌≢◌, ℕ, suc, ◌+◌, ◌<◌, List, [], ◌∷◌, ◌++◌, length, get_or, take, Option, None, refl, sym, ap, ◌∙◌, arith}
use Rattle.std.specs.Prelude.{All, AllPairs, map, replicate}
use Rattle.std.specs.List.{enumerate_from}
use Rattle.std.proofs.lemmas.List.{take_more, map-append, length-take}
use Rattle.std.proofs.lemmas.List.Elements.{All-cons, All-nil}
use Rattle.std.proofs.lemmas.List.Kept.{AllPairs-cons}
use Rattle.stow_data.specs.declared.cargoes.Container.{Container}
use Rattle.stow_data.specs.Ship.{Ship, places}
use Rattle.stow_data.specs.Shipment.{IsCargo, IsShipped}
use Rattle.stow_data.proofs.Members.{enumerate-more}
use Rattle.bookings.specs.declared.shipment.Booking.{Booking}
use Rattle.bookings.specs.declared.shipment.Bookings.{Bookings}
use Rattle.bookings.specs.Rules.{IsBooking, IsBookings}
use Rattle.bookings.specs.BookedCargo.{container_of, booked_cargo}

all_first : {X : Type 0} (P : X → Type 0) (x : X) (xs : List X) → All P (x ∷ xs) → P x
all_first P x xs h = h 0 x (omega arith)

all_rest : {X : Type 0} (P : X → Type 0) (x : X) (xs : List X) → All P (x ∷ xs) → All P xs
all_rest P x xs h = λ k d lt. h (suc k) d (omega arith)

pairs_first : {X : Type 0} (R : X → X → Type 0) (x : X) (xs : List X) → AllPairs R (x ∷ xs) → All (R x) xs
pairs_first R x xs h = λ k d lt. h 0 (suc k) d (omega arith) (omega arith)

pairs_rest : {X : Type 0} (R : X → X → Type 0) (x : X) (xs : List X) → AllPairs R (x ∷ xs) → AllPairs R xs
pairs_rest R x xs h = λ i j d lt within. h (suc i) (suc j) d (omega arith) (omega arith)

-- one booking more makes one container more
pub one_more : (bs : List Booking) (i : ℕ) (b : Booking) → i < length bs → b ≡ get_or bs i b → map container_of (enumerate_from 0 (take (i + 1) bs)) ≡ map container_of (enumerate_from 0 (take i bs)) ++ container_of (i, b) ∷ []
one_more bs i b lt is =
    let long : 0 + length (take i bs) ≡ i = omega (arith, length-take i bs) in
    ap (λ ys. map container_of (enumerate_from 0 ys)) (take_more bs i b lt ∙ ap (λ (z : Booking). take i bs ++ z ∷ []) (sym is))
    ∙ ap (map container_of) (enumerate-more (take i bs) 0 b ∙ ap (λ (k : ℕ). enumerate_from 0 (take i bs) ++ (k, b) ∷ []) long)
    ∙ map-append container_of (enumerate_from 0 (take i bs)) ((i, b) ∷ [])

-- what follows from a fact of each booking holds of each container
pub all_containers : (P : Booking → Type 0) (Q : Container → Type 0) → ((i : ℕ) (b : Booking) → P b → Q (container_of (i, b))) → (n : ℕ) (bs : List Booking) → All P bs → All Q (map container_of (enumerate_from n bs))
all_containers P Q f n [] h = All-nil Q
all_containers P Q f n (b ∷ bs) h = All-cons Q (container_of (n, b)) (map container_of (enumerate_from (n + 1) bs)) (f n b (all_first P b bs h)) (all_containers P Q f (n + 1) bs (all_rest P b bs h))

ids_kept : (n : ℕ) (bs : List Booking) → AllPairs (λ b c. b.id ≢ c.id) bs → AllPairs (λ c d. c.id ≢ d.id) (map container_of (enumerate_from n bs))
ids_kept n [] h = λ i j d lt within. absurd (omega arith)
ids_kept n (b ∷ bs) h =
    AllPairs-cons (λ (c d : Container). c.id ≢ d.id) (container_of (n, b)) (map container_of (enumerate_from (n + 1) bs))
    (all_containers (λ c. b.id ≢ c.id) (λ d. b.id ≢ d.id) (λ i c ne. ne) (n + 1) bs (pairs_first (λ (b c : Booking). b.id ≢ c.id) b bs h))
    (ids_kept (n + 1) bs (pairs_rest (λ (b c : Booking). b.id ≢ c.id) b bs h))

container_count : (n : ℕ) (bs : List Booking) → length (map container_of (enumerate_from n bs)) ≡ length bs
container_count n [] = refl
container_count n (b ∷ bs) = let more = container_count (n + 1) bs in omega (arith, more)

-- the cargo of bookings obeys the rules of a cargo
pub cargo_has_rules : (ship : Ship) (b : Bookings) → IsBookings b → IsCargo (booked_cargo ship b)
cargo_has_rules ship b h =
    let count = container_count 0 b.containers in
    let few = h.few in
    record {
      calls_from = h.calls_from;
      calls_to = h.calls_to;
      each_priced = h.each_priced;
      prices_to = h.prices_to;
      few_containers = omega (arith, count, few);
      ids_differ = ids_kept 0 b.containers h.ids_differ;
      each_shipped = all_containers (IsBooking (length b.rotation)) (IsShipped (length b.rotation)) (λ i c k. record { later = k.later; in_rotation = k.in_rotation; kg_to = k.kg_to }) 0 b.containers h.each_booking;
    }

-- a cargo of such parts is that of the bookings
pub same_cargo : (ship : Ship) (b : Bookings) (rotation : List (List ℕ)) (tariff : List ℕ) (containers : List Container) (arrival : List (Option ℕ)) → rotation ≡ b.rotation → tariff ≡ b.tariff → containers ≡ map container_of (enumerate_from 0 b.containers) → arrival ≡ replicate (length (places ship)) None
    → record { rotation = rotation; tariff = tariff; containers = containers; arrival = arrival } ≡ booked_cargo ship b
same_cargo ship b rotation tariff containers arrival r t c a = rw (r, t, c, a) refl
