-- The inputs that the words name.
use Rattle.std.specs.Prelude.{◌≡◌, ◌≢◌, ◌⊎◌, ◌≤◌, ℕ, List, length, Option, Some, None, IfSome, IsOk, Ok, Err}
use Rattle.stow_io.specs.Files.{Files, bytes_at}
use Rattle.stow_data.specs.Ship.{Ship}
use Rattle.ship_profile.specs.ShipText.{profile_of}
use Rattle.ship_profile.specs.declared.faults.ProfileFault.{ProfileFault}
use Rattle.bookings.specs.Reading.{bookings_of}
use Rattle.bookings.specs.declared.faults.BookingFault.{BookingFault}
use Rattle.bookings.specs.declared.shipment.Bookings.{Bookings}
use Rattle.baplie.specs.declared.parts.Message.{Message}
use Rattle.baplie.specs.Messages.{IsMessageOf}
use Rattle.baplie.specs.declared.faults.BaplieFault.{BaplieFault}
use Rattle.baplie.specs.declared.faults.BaplieFault.TheVariants as baplie
use Rattle.baplie.specs.Reading.{IsBaplieFault}
use Rattle.arrival_plan.specs.declared.faults.ArrivalFault.{ArrivalFault}
use Rattle.arrival_plan.specs.declared.faults.ArrivalFault.TheVariants as arrival
use Rattle.arrival_plan.specs.Settled.{Settles, groups_of}
use Rattle.stow_report.specs.declared.lines.Group.{Group}
use Rattle.stow_report.specs.declared.lines.Group.TheVariants as group
use Rattle.stow_report.specs.declared.lines.Line.{Line}
use Rattle.stow_report.specs.Refusals.{refusal_text}
use Rattle.stow_report.specs.Inputs.{profile_line, booking_line}
use Rattle.stow_report.specs.Arrivals.{arrival_line}
use Rattle.stow_report.specs.Verdicts.{file_line}
use Rattle.voyage_files.specs.declared.answer.Answer.{Answer}
use Rattle.voyage_files.specs.declared.answer.Answer.TheVariants as answer
use Rattle.voyage_files.specs.declared.voyage.BookedVoyage.{BookedVoyage}
use Rattle.voyage_files.specs.Names.{Names}

-- the bytes are those under the name, or no bytes where none stand there. Of a folder that doesn't tell they may be any
abbrev pub IsContent : Option Files → List ℕ → List ℕ → Type 0
IsContent files name bytes = IfSome files (λ m. bytes ≡ bytes_at m name)

-- the profile and the bookings are accepted, and are these
pub record AreAccepted (names : Names) (files : Option Files) (ship : Ship) (booked : Bookings) : Type 0 where
  pub profile : List ℕ
  pub bookings : List ℕ
  pub profile_is : IsContent files names.profile profile
  pub bookings_is : IsContent files names.bookings bookings
  pub ship_is : profile_of profile ≡ Ok ship
  pub booked_is : bookings_of bookings ≡ Ok booked

-- the file under the name has this bay plan
pub record HasBayPlan (files : Option Files) (name : List ℕ) (message : Message) : Type 0 where
  pub bytes : List ℕ
  pub content : IsContent files name bytes
  pub is_message : IsMessageOf bytes message

-- the bay plan of the ship as it comes in, where one is named
abbrev pub ComesIn : Option Files → Option (List ℕ) → Option Message → Type 0
ComesIn files None None = Unit {0}
ComesIn files (Some name) (Some message) = HasBayPlan files name message
ComesIn files None (Some message) = ⊥
ComesIn files (Some name) None = ⊥

-- the ship, the bookings and the bay plan that these files give, and the cargo that is settled with them
pub record AreInputs (names : Names) (files : Option Files) (v : BookedVoyage) : Type 0 where
  pub accepted : AreAccepted names files v.ship v.bookings
  pub comes_in : ComesIn files names.arrival v.message
  pub settled : Settles v.ship v.bookings (groups_of v.message) (Ok v.cargo)

-- ## Inputs that are turned down

-- what the line of a refused input is: of a limit that is passed, or else of the input
abbrev pub refused_in : Group → List ℕ → Answer
refused_in group.Large text = answer.Large text
refused_in _ text = answer.Input text

abbrev pub refused : Line → Answer
refused line = refused_in line.group (refusal_text line)

-- the profile is refused, and the line says why
pub record RefusesProfile (names : Names) (files : Option Files) (a : Answer) : Type 0 where
  pub profile : List ℕ
  pub profile_is : IsContent files names.profile profile
  pub fault : ProfileFault
  pub fault_is : profile_of profile ≡ Err fault
  pub answer_is : a ≡ refused (profile_line fault)

-- the profile is accepted, and the bookings are refused
pub record RefusesBookings (names : Names) (files : Option Files) (a : Answer) : Type 0 where
  pub profile : List ℕ
  pub profile_is : IsContent files names.profile profile
  pub accepted : IsOk (profile_of profile)
  pub bookings : List ℕ
  pub bookings_is : IsContent files names.bookings bookings
  pub fault : BookingFault
  pub fault_is : bookings_of bookings ≡ Err fault
  pub answer_is : a ≡ refused (booking_line fault)

-- the text is no bay plan
pub record IsNoBayPlan (bytes : List ℕ) (a : Answer) : Type 0 where
  pub fault : BaplieFault
  pub named : fault ≢ baplie.NoMemory
  pub has : IsBaplieFault bytes fault
  pub answer_is : a ≡ refused (file_line fault)

-- the text is a bay plan with which the ship can't come in
pub record IsUnsettled (ship : Ship) (booked : Bookings) (bytes : List ℕ) (a : Answer) : Type 0 where
  pub message : Message
  pub is_message : IsMessageOf bytes message
  pub fault : ArrivalFault
  pub named : fault ≢ arrival.NoMemory
  pub settles : Settles ship booked message.groups (Err fault)
  pub answer_is : a ≡ refused (arrival_line fault)

-- profile and bookings are accepted, and the bay plan of the ship as it comes in is refused
pub record RefusesArrival (names : Names) (files : Option Files) (a : Answer) : Type 0 where
  pub ship : Ship
  pub booked : Bookings
  pub accepted : AreAccepted names files ship booked
  pub name : List ℕ
  pub is_named : names.arrival ≡ Some name
  pub bytes : List ℕ
  pub content : IsContent files name bytes
  pub why : IsNoBayPlan bytes a ⊎ IsUnsettled ship booked bytes a

-- one of the inputs is refused
abbrev pub TurnsDown : Names → Option Files → Answer → Type 0
TurnsDown names files a = RefusesProfile names files a ⊎ (RefusesBookings names files a ⊎ RefusesArrival names files a)

-- ## Inputs of an order that names a call

-- the call that is named is above that of the last departure
abbrev pub IsPast : Option ℕ → Bookings → Type 0
IsPast None booked = ⊥
IsPast (Some call) booked = length booked.rotation ≤ call

-- profile and bookings are accepted, and the call is past their last departure
pub record RefusesCall (names : Names) (call : Option ℕ) (files : Option Files) (a : Answer) : Type 0 where
  pub ship : Ship
  pub booked : Bookings
  pub accepted : AreAccepted names files ship booked
  pub past : IsPast call booked
  pub answer_is : a ≡ answer.Call

-- the call isn't past, and the bay plan is refused
pub record RefusesArrivalAt (names : Names) (call : Option ℕ) (files : Option Files) (a : Answer) : Type 0 where
  pub arrival : RefusesArrival names files a
  pub in_time : IsPast call arrival.booked → ⊥

-- one of the inputs is refused; the call behind the bookings, and before the bay plan
abbrev pub TurnsDownAt : Names → Option ℕ → Option Files → Answer → Type 0
TurnsDownAt names call files a = RefusesProfile names files a ⊎ (RefusesBookings names files a ⊎ (RefusesCall names call files a ⊎ RefusesArrivalAt names call files a))

-- ## The files that are read

-- the bookings are read where the profile is accepted
abbrev pub IsBookingsRead : Names → Option Files → List ℕ → Type 0
IsBookingsRead names files name = (name ≡ names.bookings) × ((profile : List ℕ) × IsContent files names.profile profile × IsOk (profile_of profile))

-- the bay plan is read where both are accepted
abbrev pub IsArrivalRead : Names → Option Files → List ℕ → Type 0
IsArrivalRead names files name = (names.arrival ≡ Some name) × ((ship : Ship) × (booked : Bookings) × AreAccepted names files ship booked)

-- a file that is read
abbrev pub IsReadBy : Names → Option Files → List ℕ → Type 0
IsReadBy names files name = (name ≡ names.profile) ⊎ (IsBookingsRead names files name ⊎ IsArrivalRead names files name)

-- where a call is named, the bay plan is read only where it isn't past
pub record IsArrivalReadAt (names : Names) (call : Option ℕ) (files : Option Files) (name : List ℕ) : Type 0 where
  pub is_named : names.arrival ≡ Some name
  pub ship : Ship
  pub booked : Bookings
  pub accepted : AreAccepted names files ship booked
  pub in_time : IsPast call booked → ⊥

abbrev pub IsReadAt : Names → Option ℕ → Option Files → List ℕ → Type 0
IsReadAt names call files name = (name ≡ names.profile) ⊎ (IsBookingsRead names files name ⊎ IsArrivalReadAt names call files name)
