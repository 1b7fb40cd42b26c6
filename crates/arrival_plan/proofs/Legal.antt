-- The cargo of what came aboard and of bookings: it obeys the rules of a cargo, and its arrival is well formed.
use Rattle.std.proofs.Common.{◌≡◌, ◌≢◌, ℕ, zero, suc, ◌+◌, ◌≤◌, Bool, true, false, ◌||◌, List, [], ◌∷◌, ◌++◌, length, Some, Ok, refl, sym, ◌∙◌, ap, subst, arith, ◌⊎◌, inl, inr, ⊎_elim}
use Rattle.std.specs.Prelude.{IsTrue, All, AllPairs, map, slice_get}
use Rattle.std.specs.List.{enumerate_from}
use Rattle.std.specs.Str.{bytes_eq}
use Rattle.std.proofs.lemmas.Bool.{both_ways}
use Rattle.std.proofs.lemmas.List.{length-append}
use Rattle.std.proofs.lemmas.List.Elements.{All-append, All-cons, All-nil}
use Rattle.std.proofs.lemmas.List.Kept.{AllPairs-cons}
use Rattle.std.proofs.lemmas.Slice.Eq.{bytes_eq-Decides}
use Rattle.std.proofs.lemmas.Option.{get_or_from_slice_get, same_Some, slice_get_within}
use Rattle.stow_data.specs.declared.geometry.Length.{Length}
use Rattle.stow_data.specs.declared.geometry.Length.TheVariants.{Twenty, Forty}
use Rattle.stow_data.specs.declared.geometry.Place.{Place}
use Rattle.stow_data.specs.declared.cargoes.Container.{Container}
use Rattle.stow_data.specs.Profile.{IsShip}
use Rattle.stow_data.specs.Ship.{Ship}
use Rattle.stow_data.specs.Shipment.{Cargo, IsAboard, IsCargo, IsShipped}
use Rattle.stow_data.specs.Plans.{Plan}
use Rattle.stowage_rules.specs.declared.faults.RuleBroken.TheVariants.{Support, TwentyOnForty, NoPlug, StackWeight, Separation}
use Rattle.stowage_rules.specs.Plan.{Fills, Holds, IsWellFormed, Stands}
use Rattle.stowage_rules.specs.Departure.{HasArrival, HoldsAboard, IsSupported, IsTwenty, IsTwentyOnTwenty, half_of}
use Rattle.stowage_rules.specs.Faults.{IsFirstFault, IsTwentyOnForty as IsOnForty, IsUnplugged, IsUnsupported, MeetsRules, OfHalf}
use Rattle.stowage_rules.proofs.Items.{slice_get_in}
use Rattle.stowage_rules.proofs.Standing.{filled_or_not, half_number}
use Rattle.bookings.specs.declared.shipment.Booking.{Booking}
use Rattle.bookings.specs.declared.shipment.Bookings.{Bookings}
use Rattle.bookings.specs.BookedCargo.{container_of}
use Rattle.bookings.specs.Reading.{has_id}
use Rattle.bookings.specs.Rules.{IsBooking, IsBookings}
use Rattle.bookings.proofs.CargoLaws.{all_containers, cargo_has_rules}
use Rattle.baplie.specs.declared.parts.CellGroup.{CellGroup}
use Rattle.arrival_plan.specs.declared.stowage.Stowage.{Stowage}
use Rattle.arrival_plan.specs.Arriving.{arriving, cargo_with, nothing}
use Rattle.arrival_plan.specs.Settled.{AreRead, KeepsAsked}
use Rattle.arrival_plan.proofs.Sound.{IsArrived, IsSound, filled_low, get_kept, sound_first, sound_groups}

-- ## Lists

all_first : {X : Type 0} (P : X → Type 0) (x : X) (xs : List X) → All P (x ∷ xs) → P x
all_first P x xs h = h 0 x (omega arith)

all_rest : {X : Type 0} (P : X → Type 0) (x : X) (xs : List X) → All P (x ∷ xs) → All P xs
all_rest P x xs h = λ k d lt. h (suc k) d (omega arith)

pairs_first : {X : Type 0} (R : X → X → Type 0) (x : X) (xs : List X) → AllPairs R (x ∷ xs) → All (R x) xs
pairs_first R x xs h = λ k d lt. h 0 (suc k) d (omega arith) (omega arith)

pairs_rest : {X : Type 0} (R : X → X → Type 0) (x : X) (xs : List X) → AllPairs R (x ∷ xs) → AllPairs R xs
pairs_rest R x xs h = λ i j d lt within. h (suc i) (suc j) d (omega arith) (omega arith)

pairs_joined : {X : Type 0} (R : X → X → Type 0) (xs ys : List X) → AllPairs R xs → AllPairs R ys → All (λ x. All (R x) ys) xs → AllPairs R (xs ++ ys)
pairs_joined R [] ys h k both = k
pairs_joined R (x ∷ xs) ys h k both =
    AllPairs-cons R x (xs ++ ys) (All-append (R x) xs ys (pairs_first R x xs h) (all_first (λ x. All (R x) ys) x xs both)) (pairs_joined R xs ys (pairs_rest R x xs h) k (all_rest (λ x. All (R x) ys) x xs both))

all_mapped : {X : Type 0} (P Q : X → Type 0) (xs : List X) → ((x : X) → P x → Q x) → All P xs → All Q xs
all_mapped P Q [] f h = All-nil Q
all_mapped P Q (x ∷ xs) f h = All-cons Q x xs (f x (all_first P x xs h)) (all_mapped P Q xs f (all_rest P x xs h))

each_is : {X : Type 0} (P : X → Type 0) (xs : List X) (k : ℕ) (x : X) → All P xs → slice_get xs k ≡ Some x → P x
each_is P xs k x all h = subst P (get_or_from_slice_get xs k x x h) (all k x (slice_get_within xs k x h))

from_either : {X : Type 0} (xs ys : List X) (k : ℕ) (x : X) → slice_get (xs ++ ys) k ≡ Some x → (slice_get xs k ≡ Some x) ⊎ ((j : ℕ) × (slice_get ys j ≡ Some x))
from_either [] ys k x h = inr (k, h)
from_either (y ∷ xs) ys zero x h = inl h
from_either (y ∷ xs) ys (suc k) x h = from_either xs ys k x h

or_false : (a b : Bool) → (a || b) ≡ false → (a ≡ false) × (b ≡ false)
or_false true b h = absurd (both_ways true h refl)
or_false false b h = (refl, h)

-- no booking has the id
others : (id : List ℕ) (bs : List Booking) → has_id id bs ≡ false → All (λ b. id ≢ b.id) bs
others id [] h = All-nil (λ b. id ≢ b.id)
others id (b ∷ bs) h =
    let p = or_false (bytes_eq b.id id) (has_id id bs) h in
    All-cons (λ b. id ≢ b.id) b bs (λ e. both_ways (bytes_eq b.id id) p.0 ((bytes_eq-Decides b.id id).1 (sym e))) (others id bs p.1)

-- ## The cargo

module _ (ship : Ship) (bookings : Bookings) (rules : IsBookings bookings) (s : Stowage) (sound : IsSound ship bookings s) where
  abbrev booked : List Container
  booked = map container_of (enumerate_from 0 bookings.containers)

  apart_from_booked : All (λ c. All (λ d. c.id ≢ d.id) booked) s.containers
  apart_from_booked = all_mapped (λ (c : Container). has_id c.id bookings.containers ≡ false) (λ (c : Container). All (λ d. c.id ≢ d.id) booked) s.containers
      (λ c h. all_containers (λ b. c.id ≢ b.id) (λ d. c.id ≢ d.id) (λ i b ne. ne) 0 bookings.containers (others c.id bookings.containers h)) sound.not_booked

  pub cargo_obeys : IsShip ship → IsCargo (cargo_with ship bookings s)
  cargo_obeys lawful =
      let base = cargo_has_rules ship bookings rules in
      let small = rules.few in
      let few = lawful.few_places in
      let each = sound.each_place in
      let stands = sound.each_stands in
      let count = booked_count 0 bookings.containers in
      record {
        calls_from = rules.calls_from;
        calls_to = rules.calls_to;
        each_priced = rules.each_priced;
        prices_to = rules.prices_to;
        few_containers = omega (arith, few, each, stands, filled_low s.plan, small, count, length-append s.containers booked);
        ids_differ = pairs_joined (λ (c d : Container). c.id ≢ d.id) s.containers booked sound.ids_differ base.ids_differ apart_from_booked;
        each_shipped = All-append (IsShipped (length bookings.rotation)) s.containers booked (all_mapped (IsArrived (length bookings.rotation)) (IsShipped (length bookings.rotation)) s.containers (λ c a. record { later = let l = a.load in let d = a.dest_from in omega (arith, l, d); in_rotation = a.dest_to; kg_to = a.kg_to }) sound.each) base.each_shipped;
      }
    where
      booked_count : (n : ℕ) (bs : List Booking) → length (map container_of (enumerate_from n bs)) ≡ length bs
      booked_count n [] = refl
      booked_count n (b ∷ bs) = let more = booked_count (n + 1) bs in omega (arith, more)

  -- what stands is a container that came aboard
  came : (p c : ℕ) (x : Container) → Holds s.plan p c → slice_get (s.containers ++ booked) c ≡ Some x → slice_get s.containers c ≡ Some x
  came p c x h at = sym (get_kept s.containers booked c (sound.known p c h)) ∙ at

  pub arrival_formed : IsWellFormed ship (cargo_with ship bookings s) s.plan
  arrival_formed = record {
    each_place = sound.each_place;
    known = λ p c h. let low = sound.known p c h in let at = slice_get_in s.containers c low in (at.0, get_kept s.containers booked c low ∙ at.1);
    fits = λ p c place x stands. sound.fits p c place x stands.is_place stands.holds (came p c x stands.holds stands.is_container);
    apart = sound.apart;
    once = sound.once;
  }

  aboard_from : (p c : ℕ) (x : Container) → Holds s.plan p c → slice_get (s.containers ++ booked) c ≡ Some x → IsAboard 0 x
  aboard_from p c x h at =
      let a = each_is (IsArrived (length bookings.rotation)) s.containers c x sound.each (came p c x h at) in
      let l = a.load in let d = a.dest_from in
      record { loaded = omega (arith, l); stays = omega (arith, d) }

  stands_where : (c : ℕ) (x : Container) → slice_get (s.containers ++ booked) c ≡ Some x → IsAboard 0 x → (p : ℕ) × Holds s.plan p c
  stands_where c x at aboard = ⊎_elim
      (λ (k : slice_get s.containers c ≡ Some x). sound.somewhere c (slice_get_within s.containers c x k))
      (λ (k : (j : ℕ) × (slice_get booked j ≡ Some x)).
      let late : 1 ≤ x.load = each_is (λ d. 1 ≤ d.load) booked k.0 x (all_containers (IsBooking (length bookings.rotation)) (λ d. 1 ≤ d.load) (λ i b is. is.from_first) 0 bookings.containers rules.each_booking) k.1 in
      let soon = aboard.loaded in absurd (omega (arith, late, soon)))
      (from_either s.containers booked c x at)

  pub holds_arrived : HoldsAboard (cargo_with ship bookings s) 0 s.plan
  holds_arrived = λ c x at. (λ h. aboard_from h.0 c x h.1 at, λ a. stands_where c x at a)

  pub arrives : KeepsAsked ship (cargo_with ship bookings s) s.plan → HasArrival ship (cargo_with ship bookings s)
  arrives keeps = record { well_formed = arrival_formed; aboard = holds_arrived; supported = keeps.supported; twenty = keeps.twenty; plugged = keeps.plugged }

-- what comes aboard is sound
pub told_sound : (ship : Ship) (bookings : Bookings) (groups : List CellGroup) (s : Stowage) → AreRead groups → arriving ship bookings groups ≡ Ok s → IsSound ship bookings s
told_sound ship bookings groups s read h = sound_groups ship bookings (nothing ship) s 0 groups read.weights h (sound_first ship bookings)

-- ## The first three rules, where the first fault is of a later one

module _ (ship : Ship) (cargo : Cargo) (plan : Plan) (formed : IsWellFormed ship cargo plan) where
  abbrev NoSupport : Type 0
  NoSupport = (h : ℕ) → OfHalf ship (IsUnsupported ship plan) h → ⊥

  abbrev NoTwenty : Type 0
  NoTwenty = (h : ℕ) → OfHalf ship (IsOnForty ship cargo plan) h → ⊥

  abbrev NoReefer : Type 0
  NoReefer = (p : ℕ) → IsUnplugged ship cargo plan p → ⊥

  supported : NoSupport → IsSupported ship plan
  supported none stack tier aft c x = ⊎_elim
      (λ (a : (d : ℕ) × Fills ship plan (half_of stack tier aft) d). a)
      (λ (b : (d : ℕ) → Fills ship plan (half_of stack tier aft) d → ⊥).
      let number = half_number ship x.number x.place (half_of stack (tier + 1) aft) x.is_place x.has_half in
      absurd (none number.0 (record { half = half_of stack (tier + 1) aft; is_half = number.1; holds = record { container = c; fills = x; tier = tier; is_above = refl; empty_below = b } })))
      (filled_or_not ship plan (half_of stack tier aft))

  twenty_cases : (d : ℕ) (container : Container) (long : Length) → slice_get cargo.containers d ≡ Some container → container.long ≡ long → IsTwenty cargo d ⊎ (IsTwenty cargo d → ⊥)
  twenty_cases d container Twenty is e = inl (container, is, e)
  twenty_cases d container Forty is e = inr (λ t. let one : t.0 ≡ container = same_Some (t.0) container (sym t.1 ∙ is) in let no : Twenty ≡ Forty = sym t.2 ∙ (ap (λ (z : Container). z.long) one ∙ e) in cc)

  twenty : NoTwenty → IsTwentyOnTwenty ship cargo plan
  twenty none stack tier aft c d x y is =
      let known = formed.known y.number d y.holds in ⊎_elim
      (λ (a : IsTwenty cargo d). a)
      (λ (b : IsTwenty cargo d → ⊥).
      let number = half_number ship x.number x.place (half_of stack (tier + 1) aft) x.is_place x.has_half in
      absurd (none number.0 (record { half = half_of stack (tier + 1) aft; is_half = number.1; holds = record { container = c; fills = x; twenty = is; tier = tier; is_above = refl; below = d; fills_below = y; not_twenty = b } })))
      (twenty_cases d known.0 known.0.long known.1 refl)

  plugged : (p c : ℕ) (place : Place) (container : Container) (plug : Bool) → place.plug ≡ plug → NoReefer → Stands ship cargo plan p c place container → IsTrue container.reefer → IsTrue place.plug
  plugged p c place container true e none stands reefer = e
  plugged p c place container false e none stands reefer = absurd (none p (record { number = c; place = place; container = container; stands = stands; reefer = reefer; no_plug = λ t. both_ways place.plug e t }))

  keeps : NoSupport → NoTwenty → NoReefer → KeepsAsked ship cargo plan
  keeps a b c = record { supported = supported a; twenty = twenty b; plugged = λ p n place container stands reefer. plugged p n place container place.plug refl c stands reefer }

  pub keeps_all : MeetsRules ship cargo plan → KeepsAsked ship cargo plan
  keeps_all m = record { supported = m.supported; twenty = m.twenty; plugged = m.plugged }

  pub keeps_heavy : (stack kg : ℕ) → IsFirstFault ship cargo plan (StackWeight stack kg) → KeepsAsked ship cargo plan
  keeps_heavy stack kg f = keeps (λ h x. f.none_before (Support h) (inl (omega arith)) x) (λ h x. f.none_before (TwentyOnForty h) (inl (omega arith)) x) (λ p x. f.none_before (NoPlug p) (inl (omega arith)) x)

  pub keeps_near : (e p q : ℕ) → IsFirstFault ship cargo plan (Separation e p q) → KeepsAsked ship cargo plan
  keeps_near e p q f = keeps (λ h x. f.none_before (Support h) (inl (omega arith)) x) (λ h x. f.none_before (TwentyOnForty h) (inl (omega arith)) x) (λ n x. f.none_before (NoPlug n) (inl (omega arith)) x)
