-- What the reads of the inputs come to.
use Rattle.std.specs.Prelude.{◌≡◌, ◌≢◌, ◌⊎◌, ℕ, List, Option, Some, None, Ok, Err}
use Rattle.stow_io.specs.Files.{Files}
use Rattle.stow_data.specs.Ship.{Ship}
use Rattle.stow_data.specs.Profile.{IsShip}
use Rattle.stow_data.specs.Shipment.{Cargo, IsCargo}
use Rattle.ship_profile.specs.ShipText.{profile_of}
use Rattle.ship_profile.specs.declared.faults.ProfileFault.{ProfileFault}
use Rattle.bookings.specs.Reading.{bookings_of}
use Rattle.bookings.specs.Rules.{IsBookings}
use Rattle.bookings.specs.declared.faults.BookingFault.{BookingFault}
use Rattle.bookings.specs.declared.shipment.Bookings.{Bookings}
use Rattle.baplie.specs.declared.parts.Message.{Message}
use Rattle.baplie.specs.Messages.{IsMessageOf}
use Rattle.arrival_plan.specs.declared.faults.ArrivalFault.{ArrivalFault}
use Rattle.arrival_plan.specs.declared.faults.ArrivalFault.TheVariants as arrival
use Rattle.arrival_plan.specs.Settled.{Settles, groups_of}
use Rattle.stow_report.specs.Inputs.{profile_line, booking_line}
use Rattle.stow_report.specs.Arrivals.{arrival_line}
use Rattle.voyage_files.specs.declared.voyage.BookedVoyage.{BookedVoyage}
use Rattle.voyage_files.specs.declared.voyage.ComesIn.{ComesIn}
use Rattle.voyage_files.specs.declared.reading.Accepted.{Accepted}
use Rattle.voyage_files.specs.declared.reading.Accepted.TheVariants.{Yes, No}
use Rattle.voyage_files.specs.declared.reading.Found.{Found}
use Rattle.voyage_files.specs.declared.reading.Found.TheVariants.{Voyage, Refused}
use Rattle.voyage_files.specs.declared.answer.Answer.{Answer}
use Rattle.voyage_files.specs.declared.answer.Answer.TheVariants as answer
use Rattle.voyage_files.specs.Names.{Names}
use Rattle.voyage_files.specs.Booked.{IsBooked, WasRead}
use Rattle.voyage_files.specs.Inputs.{IsContent, AreInputs, IsNoBayPlan, IsPast, IsUnsettled, TurnsDown, TurnsDownAt, refused}

-- the text is a profile of this ship, or is refused so
abbrev pub IsShipOf : List ℕ → Accepted Ship → Type 0
IsShipOf bytes (Yes ship) = (profile_of bytes ≡ Ok ship) × IsShip ship
IsShipOf bytes (No a) = (fault : ProfileFault) × (profile_of bytes ≡ Err fault) × (a ≡ refused (profile_line fault))

-- the text gives these bookings, or is refused so
abbrev pub AreBookingsOf : List ℕ → Accepted Bookings → Type 0
AreBookingsOf bytes (Yes booked) = (bookings_of bytes ≡ Ok booked) × IsBookings booked
AreBookingsOf bytes (No a) = (fault : BookingFault) × (bookings_of bytes ≡ Err fault) × (a ≡ refused (booking_line fault))

-- the text is this bay plan, or is refused so
abbrev pub IsBayPlanOf : List ℕ → Accepted Message → Type 0
IsBayPlanOf bytes (Yes message) = IsMessageOf bytes message
IsBayPlanOf bytes (No a) = IsNoBayPlan bytes a

-- what a text under the name is read as
abbrev pub IsUnder : {T : Type 0} → Option Files → List ℕ → (List ℕ → Accepted T → Type 0) → Accepted T → Type 0
IsUnder files name reads found = (bytes : List ℕ) × IsContent files name bytes × reads bytes found

-- what a ship with these bookings has that comes in with this bay plan
pub record Comes (ship : Ship) (booked : Bookings) (message : Option Message) (come : ComesIn) : Type 0 where
  pub same_message : come.message ≡ message
  pub read : WasRead message
  pub settled : Settles ship booked (groups_of message) (Ok come.cargo)
  pub cargo_rules : IsCargo come.cargo

-- a bay plan is refused for this
pub record IsRefusal (ship : Ship) (booked : Bookings) (message : Message) (a : Answer) : Type 0 where
  pub fault : ArrivalFault
  pub named : fault ≢ arrival.NoMemory
  pub settles : Settles ship booked message.groups (Err fault)
  pub answer_is : a ≡ refused (arrival_line fault)

-- the cargo that is settled with a bay plan, or why the bay plan is refused
abbrev pub IsCargoWith : Ship → Bookings → Message → Accepted Cargo → Type 0
IsCargoWith ship booked message (Yes cargo) = Settles ship booked message.groups (Ok cargo) × IsCargo cargo
IsCargoWith ship booked message (No a) = IsRefusal ship booked message a

-- what it has with a bay plan, or why the bay plan is refused
abbrev pub IsSettled : Ship → Bookings → Message → Accepted ComesIn → Type 0
IsSettled ship booked message (Yes come) = Comes ship booked (Some message) come
IsSettled ship booked message (No a) = IsRefusal ship booked message a

-- the same with the text of a bay plan
abbrev pub IsArrived : Ship → Bookings → List ℕ → Accepted ComesIn → Type 0
IsArrived ship booked bytes (Yes come) = (message : Message) × IsMessageOf bytes message × Comes ship booked (Some message) come
IsArrived ship booked bytes (No a) = IsNoBayPlan bytes a ⊎ IsUnsettled ship booked bytes a

-- the same with the file of a bay plan
abbrev pub IsArrival : Ship → Bookings → Option Files → List ℕ → Accepted ComesIn → Type 0
IsArrival ship booked files name found = (bytes : List ℕ) × IsContent files name bytes × IsArrived ship booked bytes found

-- the same with the bay plan that is named, where one is
abbrev pub IsComing : Ship → Bookings → Option Files → Option (List ℕ) → Accepted ComesIn → Type 0
IsComing ship booked files (Some name) found = IsArrival ship booked files name found
IsComing ship booked files None (Yes come) = Comes ship booked None come
IsComing ship booked files None (No a) = ⊥

-- the voyage that this makes, or why the bay plan is refused
abbrev pub IsVoyageOf : Ship → Bookings → Option Files → Option (List ℕ) → Found → Type 0
IsVoyageOf ship booked files name (Voyage v) = IsShip ship × (v.ship ≡ ship) × (v.bookings ≡ booked) × IsComing ship booked files name (Yes (record { message = v.message; cargo = v.cargo }))
IsVoyageOf ship booked files name (Refused a) = IsComing ship booked files name (No a)

-- the same where a call is named, which may be past
abbrev pub IsVoyageAt : Option ℕ → Ship → Bookings → Option Files → Option (List ℕ) → Found → Type 0
IsVoyageAt call ship booked files name found = (IsPast call booked × (found ≡ Refused answer.Call)) ⊎ ((IsPast call booked → ⊥) × IsVoyageOf ship booked files name found)

-- accepted inputs, as one voyage
pub record AreTaken (names : Names) (files : Option Files) (v : BookedVoyage) : Type 0 where
  pub inputs_are : AreInputs names files v
  pub booked : IsBooked v

abbrev pub IsFound : Names → Option Files → Found → Type 0
IsFound names files (Voyage v) = AreTaken names files v
IsFound names files (Refused a) = TurnsDown names files a

-- the same where a call is named, which isn't past
pub record AreTakenAt (names : Names) (call : Option ℕ) (files : Option Files) (v : BookedVoyage) : Type 0 where
  pub taken : AreTaken names files v
  pub in_time : IsPast call v.bookings → ⊥

abbrev pub IsFoundAt : Names → Option ℕ → Option Files → Found → Type 0
IsFoundAt names call files (Voyage v) = AreTakenAt names call files v
IsFoundAt names call files (Refused a) = TurnsDownAt names call files a
