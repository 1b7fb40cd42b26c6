-- What the inputs come to, from what was read of them.
use Rattle.std.proofs.Common.{◌≡◌, ℕ, ◌≤◌, List, Option, Some, None, refl, sym, subst, ◌∙◌, inl, inr, arith}
use Rattle.std.specs.Prelude.{Result, Ok, Err, IfOk, IfErr}
use Rattle.stow_io.specs.Files.{Files}
use Rattle.stow_io.specs.Causes.{Rose}
use Rattle.stow_data.specs.Ship.{Ship}
use Rattle.ship_profile.specs.ShipText.{profile_of}
use Rattle.bookings.specs.Reading.{bookings_of}
use Rattle.bookings.specs.declared.shipment.Bookings.{Bookings}
use Rattle.baplie.specs.declared.parts.Message.{Message}
use Rattle.voyage_files.specs.declared.reading.ReadStop.{ReadStop}
use Rattle.voyage_files.specs.declared.reading.ReadStop.TheVariants.{Failed, FailedOwn, NoMemory}
use Rattle.voyage_files.specs.declared.reading.Found.{Found}
use Rattle.voyage_files.specs.declared.reading.Found.TheVariants.{Voyage, Refused}
use Rattle.voyage_files.specs.Names.{Names}
use Rattle.voyage_files.specs.Named.{IsStop}
use Rattle.voyage_files.specs.declared.reading.Accepted.TheVariants.{Yes, No}
use Rattle.voyage_files.specs.declared.answer.Answer.{Answer}
use Rattle.stow_data.specs.Profile.{IsShip}
use Rattle.stow_data.specs.Shipment.{Cargo, IsCargo}
use Rattle.arrival_plan.specs.Settled.{Settles, groups_of}
use Rattle.bookings.specs.Rules.{IsBookings}
use Rattle.voyage_files.specs.Booked.{WasRead}
use Rattle.voyage_files.specs.Inputs.{AreAccepted, ComesIn, IsContent, IsPast, IsReadAt, IsReadBy, TurnsDown, TurnsDownAt}
use Rattle.voyage_files.specs.declared.reading.Accepted.{Accepted}
use Rattle.voyage_files.specs.Reading.{AreBookingsOf, IsComing, IsFound, IsFoundAt, IsShipOf, IsUnder, IsVoyageAt, IsVoyageOf}

pub accepted : (names : Names) (files : Option Files) (profile bookings : List ℕ) (ship : Ship) (booked : Bookings) → IsContent files names.profile profile → IsContent files names.bookings bookings → profile_of profile ≡ Ok ship → bookings_of bookings ≡ Ok booked → AreAccepted names files ship booked
accepted names files profile bookings ship booked p b s k = record { profile = profile; bookings = bookings; profile_is = p; bookings_is = b; ship_is = s; booked_is = k }

-- what a ship comes in with, over the name of the bay plan
record Came (files : Option Files) (named : Option (List ℕ)) (ship : Ship) (booked : Bookings) (message : Option Message) (cargo : Cargo) : Type 0 where
  pub comes_in : ComesIn files named message
  pub read : WasRead message
  pub settled : Settles ship booked (groups_of message) (Ok cargo)
  pub rules : IsCargo cargo

came : (files : Option Files) (named : Option (List ℕ)) (ship : Ship) (booked : Bookings) (message : Option Message) (cargo : Cargo) → IsComing ship booked files named (Yes (record { message = message; cargo = cargo })) → Came files named ship booked message cargo
came files None ship booked message cargo h = subst (λ (m : Option Message). Came files None ship booked m cargo) (sym h.same_message) (record { comes_in = tt; read = h.read; settled = h.settled; rules = h.cargo_rules })
came files (Some name) ship booked message cargo h =
    let c = (h.2).2 in
    subst (λ (m : Option Message). Came files (Some name) ship booked m cargo) (sym c.same_message) (record { comes_in = record { bytes = h.0; content = h.1; is_message = (h.2).1 }; read = c.read; settled = c.settled; rules = c.cargo_rules })

refused_named : (names : Names) (files : Option Files) (ship : Ship) (booked : Bookings) (x : Answer) (named : Option (List ℕ)) → names.arrival ≡ named → AreAccepted names files ship booked → IsComing ship booked files named (No x) → TurnsDown names files x
refused_named names files ship booked x None e a h = absurd h
refused_named names files ship booked x (Some name) e a h = inr (inr (record { ship = ship; booked = booked; accepted = a; name = name; is_named = e; bytes = h.0; content = h.1; why = h.2 }))

found_is : (names : Names) (files : Option Files) (ship : Ship) (booked : Bookings) (found : Found) → AreAccepted names files ship booked → IsBookings booked → IsVoyageOf ship booked files names.arrival found → IsFound names files found
found_is names files ship booked (Voyage v) a rules h =
    let c = came files names.arrival ship booked v.message v.cargo h.3 in
    let moved : Settles v.ship v.bookings (groups_of v.message) (Ok v.cargo) =
    subst (λ (s : Ship). Settles s v.bookings (groups_of v.message) (Ok v.cargo)) (sym h.1)
    (subst (λ (b : Bookings). Settles ship b (groups_of v.message) (Ok v.cargo)) (sym h.2) c.settled) in
    record {
      inputs_are = record {
        accepted = subst (λ (s : Ship). AreAccepted names files s v.bookings) (sym h.1) (subst (AreAccepted names files ship) (sym h.2) a);
        comes_in = c.comes_in;
        settled = moved;
      };
      booked = record { ship_rules = subst IsShip (sym h.1) h.0; rules = subst IsBookings (sym h.2) rules; read = c.read; cargo_rules = c.rules; settled = moved };
    }
found_is names files ship booked (Refused x) a rules h = refused_named names files ship booked x names.arrival refl a h

-- with a call it is so where the call isn't past
found_at : (names : Names) (call : Option ℕ) (files : Option Files) (ship : Ship) (booked : Bookings) (found : Found) → AreAccepted names files ship booked → IsBookings booked → IsVoyageAt call ship booked files names.arrival found → IsFoundAt names call files found
found_at names call files ship booked found a rules (inl h) =
    subst (IsFoundAt names call files) (sym h.1) (inr (inr (inl (record { ship = ship; booked = booked; accepted = a; past = h.0; answer_is = refl }))))
found_at names call files ship booked (Voyage v) a rules (inr h) = record { taken = found_is names files ship booked (Voyage v) a rules h.1; in_time = λ past. h.0 (subst (IsPast call) (h.1).2 past) }
found_at names call files ship booked (Refused x) a rules (inr h) = named_at names.arrival refl h.1
  where
    named_at : (named : Option (List ℕ)) → names.arrival ≡ named → IsComing ship booked files named (No x) → TurnsDownAt names call files x
    named_at None e k = absurd k
    named_at (Some name) e k = inr (inr (inr (record { arrival = record { ship = ship; booked = booked; accepted = a; name = name; is_named = e; bytes = k.0; content = k.1; why = k.2 }; in_time = h.0 })))

-- the voyage of accepted inputs is what they come to
pub voyage_found : (r : Result Found ReadStop) (names : Names) (call : Option ℕ) (files files' : Option Files) (ship : Ship) (booked : Bookings) → AreAccepted names files ship booked → IsBookings booked → files' ≡ files → IfOk r (IsVoyageAt call ship booked files' names.arrival) → IfOk r (IsFoundAt names call files)
voyage_found (Ok found) names call files files' ship booked a rules same h = found_at names call files ship booked found a rules (subst (λ (fs : Option Files). IsVoyageAt call ship booked fs names.arrival found) same h)
voyage_found (Err stop) names call files files' ship booked a rules same h = tt

rose_before : (old mid new : ℕ) → old ≤ mid → Rose mid new → Rose old new
rose_before old mid new le rose = omega arith

is_read : (names : Names) (call : Option ℕ) (files : Option Files) (ship : Ship) (booked : Bookings) (n : List ℕ) → AreAccepted names files ship booked → (IsPast call booked → ⊥) → names.arrival ≡ Some n → IsReadAt names call files n
is_read names call files ship booked n a t e = inr (inr (record { is_named = e; ship = ship; booked = booked; accepted = a; in_time = t }))

abbrev pub StopsAt : Names → Option ℕ → Bookings → List ℕ → Type 0
StopsAt names call booked n = (IsPast call booked → ⊥) × (names.arrival ≡ Some n)

-- and where it stops, it stops at the bay plan that is named
pub voyage_stops : (r : Result Found ReadStop) (names : Names) (call : Option ℕ) (files : Option Files) (ship : Ship) (booked : Bookings) (old mid new : ℕ) → AreAccepted names files ship booked → old ≤ mid
    → IfErr r (IsStop (Rose mid new) (StopsAt names call booked)) → IfErr r (IsStop (Rose old new) (IsReadAt names call files))
voyage_stops (Ok found) names call files ship booked old mid new a le h = tt
voyage_stops (Err (Failed n)) names call files ship booked old mid new a le h = (rose_before old mid new le h.0, is_read names call files ship booked n.now a h.1.0 h.1.1)
voyage_stops (Err (FailedOwn n)) names call files ship booked old mid new a le h = (rose_before old mid new le h.0, is_read names call files ship booked n a h.1.0 h.1.1)
voyage_stops (Err NoMemory) names call files ship booked old mid new a le h = tt

-- the same from what was read of both texts
pub inputs_found : (r : Result Found ReadStop) (names : Names) (call : Option ℕ) (f0 f1 f2 : Option Files) (s : Accepted Ship) (b : Accepted Bookings) (ship : Ship) (booked : Bookings) → IsUnder f0 names.profile IsShipOf s → s ≡ Yes ship → f1 ≡ f0 → IsUnder f1 names.bookings AreBookingsOf b → b ≡ Yes booked → f2 ≡ f1
    → IfOk r (IsVoyageAt call ship booked f2 names.arrival) → IfOk r (IsFoundAt names call f0)
inputs_found r names call f0 f1 f2 s b ship booked hs es e1 hb eb e2 h =
    let ks = subst (IsUnder f0 names.profile IsShipOf) es hs in
    let kb = subst (λ (fs : Option Files). IsUnder fs names.bookings AreBookingsOf (Yes booked)) e1 (subst (IsUnder f1 names.bookings AreBookingsOf) eb hb) in
    voyage_found r names call f0 f2 ship booked (accepted names f0 ks.0 kb.0 ship booked ks.1 kb.1 (ks.2).0 (kb.2).0) (kb.2).1 (e2 ∙ e1) h

-- ## Without a call

without_call : (names : Names) (files : Option Files) (found : Found) → IsFoundAt names None files found → IsFound names files found
without_call names files (Voyage v) h = h.taken
without_call names files (Refused a) (inl h) = inl h
without_call names files (Refused a) (inr (inl h)) = inr (inl h)
without_call names files (Refused a) (inr (inr (inl h))) = absurd h.past
without_call names files (Refused a) (inr (inr (inr h))) = inr (inr h.arrival)

pub found_without : {E : Type 0} (r : Result Found E) (names : Names) (files : Option Files) → IfOk r (IsFoundAt names None files) → IfOk r (IsFound names files)
found_without (Ok found) names files h = without_call names files found h
found_without (Err e) names files h = tt

read_without : (names : Names) (files : Option Files) (n : List ℕ) → IsReadAt names None files n → IsReadBy names files n
read_without names files n (inl h) = inl h
read_without names files n (inr (inl h)) = inr (inl h)
read_without names files n (inr (inr h)) = inr (inr (h.is_named, (h.ship, h.booked, h.accepted)))

pub stops_without : {T : Type 0} (r : Result T ReadStop) (rose : Type 0) (names : Names) (files : Option Files) → IfErr r (IsStop rose (IsReadAt names None files)) → IfErr r (IsStop rose (IsReadBy names files))
stops_without (Ok found) rose names files h = tt
stops_without (Err (Failed n)) rose names files h = (h.0, read_without names files n.now h.1)
stops_without (Err (FailedOwn n)) rose names files h = (h.0, read_without names files n h.1)
stops_without (Err NoMemory) rose names files h = tt
