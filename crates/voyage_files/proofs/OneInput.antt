-- Over files that are told, the inputs are one ship with its bookings, or they are turned down in one way.
use Rattle.std.proofs.Common.{◌≡◌, List, Option, Some, None, refl, sym, ap, subst, ◌∙◌, inl, inr}
use Rattle.std.proofs.lemmas.Option.{none-some, same_Some}
use Rattle.std.specs.Prelude.{◌⊎◌, ℕ, true, false, Result, Ok, Err, IsOk, is_ok}
use Rattle.stow_io.specs.Files.{Files}
use Rattle.stow_data.specs.Ship.{Ship}
use Rattle.ship_profile.specs.ShipText.{profile_of}
use Rattle.ship_profile.specs.declared.faults.ProfileFault.{ProfileFault}
use Rattle.bookings.specs.Reading.{bookings_of}
use Rattle.bookings.specs.declared.faults.BookingFault.{BookingFault}
use Rattle.bookings.specs.declared.shipment.Bookings.{Bookings}
use Rattle.stow_data.specs.Shipment.{Cargo}
use Rattle.baplie.specs.declared.parts.Message.{Message}
use Rattle.baplie.specs.Messages.{IsMessageOf}
use Rattle.baplie.specs.declared.faults.BaplieFault.{BaplieFault}
use Rattle.arrival_plan.specs.declared.faults.ArrivalFault.{ArrivalFault}
use Rattle.arrival_plan.specs.Settled.{Settles, groups_of}
use Rattle.stow_report.specs.Inputs.{profile_line, booking_line}
use Rattle.stow_report.specs.Arrivals.{arrival_line}
use Rattle.stow_report.specs.Verdicts.{file_line}
use Rattle.voyage_files.specs.declared.answer.Answer.{Answer}
use Rattle.voyage_files.specs.Names.{Names}
use Rattle.voyage_files.specs.Inputs.{IsContent, AreAccepted, HasBayPlan, ComesIn, AreInputs, RefusesProfile, RefusesBookings, RefusesArrival, IsNoBayPlan, IsUnsettled, TurnsDown, refused}
use Rattle.voyage_files.specs.declared.voyage.BookedVoyage.{BookedVoyage}
use Rattle.voyage_files.proofs.OneMessage.{message_not_fault, one_baplie_fault, one_message}
use Rattle.voyage_files.proofs.OneArrival.{one_fault, one_cargo, settled_not_refused}

pub one_content : (files : Files) (name b c : List ℕ) → IsContent (Some files) name b → IsContent (Some files) name c → b ≡ c
one_content files name b c h k = h ∙ sym k

one_ok : {A E : Type 0} (f : List ℕ → Result A E) (x y : List ℕ) (a b : A) → x ≡ y → f x ≡ Ok a → f y ≡ Ok b → a ≡ b
one_ok f x y a b e h k = cc

one_err : {A E : Type 0} (f : List ℕ → Result A E) (x y : List ℕ) (a b : E) → x ≡ y → f x ≡ Err a → f y ≡ Err b → a ≡ b
one_err f x y a b e h k = cc

ok_or_err : {A E : Type 0} (f : List ℕ → Result A E) (x y : List ℕ) (a : A) (b : E) → x ≡ y → f x ≡ Ok a → f y ≡ Err b → ⊥
ok_or_err f x y a b e h k = cc

accepted_or_err : {A E : Type 0} (f : List ℕ → Result A E) (x y : List ℕ) (b : E) → x ≡ y → IsOk (f x) → f y ≡ Err b → ⊥
accepted_or_err {A} {E} f x y b e h k =
    let bad : false ≡ true = subst (λ (r : Result A E). is_ok r ≡ true) (ap f e ∙ k) h in
    cc

one_accepted : (names : Names) (files : Files) (s t : Ship) (b c : Bookings) → AreAccepted names (Some files) s b → AreAccepted names (Some files) t c → (s ≡ t) × (b ≡ c)
one_accepted names files s t b c h k = (
  one_ok profile_of h.profile k.profile s t (one_content files names.profile _ _ h.profile_is k.profile_is) h.ship_is k.ship_is,
  one_ok bookings_of h.bookings k.bookings b c (one_content files names.bookings _ _ h.bookings_is k.bookings_is) h.booked_is k.booked_is,
)

-- ## The bay plan of the ship as it comes in

one_bay_plan : (files : Files) (name : List ℕ) (m n : Message) → HasBayPlan (Some files) name m → HasBayPlan (Some files) name n → m ≡ n
one_bay_plan files name m n h k =
    let e = one_content files name h.bytes k.bytes h.content k.content in
    one_message k.bytes m n (subst (λ (y : List ℕ). IsMessageOf y m) e h.is_message) k.is_message

one_arrival : (files : Files) (name : Option (List ℕ)) (m n : Option Message) → ComesIn (Some files) name m → ComesIn (Some files) name n → m ≡ n
one_arrival files None None None h k = refl
one_arrival files None (Some m) n h k = absurd h
one_arrival files None None (Some n) h k = absurd k
one_arrival files (Some name) None n h k = absurd h
one_arrival files (Some name) (Some m) None h k = absurd k
one_arrival files (Some name) (Some m) (Some n) h k = ap (λ (z : Message). Some z) (one_bay_plan files name m n h k)

-- the bay plan that is named
pub record IsNamedPlan (files : Option Files) (name : List ℕ) (m : Option Message) : Type 0 where
  pub message : Message
  pub is : m ≡ Some message
  pub has : HasBayPlan files name message

named_plan : (files : Option Files) (named : Option (List ℕ)) (name : List ℕ) (m : Option Message) → named ≡ Some name → ComesIn files named m → IsNamedPlan files name m
named_plan files None name m e h = absurd (none-some name e)
named_plan files (Some other) name None e h = absurd h
named_plan files (Some other) name (Some message) e h = record { message = message; is = refl; has = subst (λ (z : List ℕ). HasBayPlan files z message) (same_Some other name e) h }

-- ## All inputs

same_voyage : (v w : BookedVoyage) → v.ship ≡ w.ship → v.bookings ≡ w.bookings → v.message ≡ w.message → v.cargo ≡ w.cargo → v ≡ w
same_voyage v w s b m c =
    let with_ship : Ship → BookedVoyage = λ x. record { ship = x; bookings = v.bookings; message = v.message; cargo = v.cargo } in
    let with_bookings : Bookings → BookedVoyage = λ x. record { ship = w.ship; bookings = x; message = v.message; cargo = v.cargo } in
    let with_message : Option Message → BookedVoyage = λ x. record { ship = w.ship; bookings = w.bookings; message = x; cargo = v.cargo } in
    let with_cargo : Cargo → BookedVoyage = λ x. record { ship = w.ship; bookings = w.bookings; message = w.message; cargo = x } in
    ap with_ship s ∙ (ap with_bookings b ∙ (ap with_message m ∙ ap with_cargo c))

pub one_inputs : (names : Names) (files : Files) (v w : BookedVoyage) → AreInputs names (Some files) v → AreInputs names (Some files) w → v ≡ w
one_inputs names files v w h k =
    let e = one_accepted names files v.ship w.ship v.bookings w.bookings h.accepted k.accepted in
    let m = one_arrival files names.arrival v.message w.message h.comes_in k.comes_in in
    let moved : Settles w.ship w.bookings (groups_of w.message) (Ok v.cargo) =
    subst (λ (z : Option Message). Settles w.ship w.bookings (groups_of z) (Ok v.cargo)) m
    (subst (λ (b : Bookings). Settles w.ship b (groups_of v.message) (Ok v.cargo)) e.1
    (subst (λ (s : Ship). Settles s v.bookings (groups_of v.message) (Ok v.cargo)) e.0 h.settled)) in
    same_voyage v w e.0 e.1 m (one_cargo w.ship w.bookings (groups_of w.message) v.cargo w.cargo moved k.settled)

refused_plan : (bytes : List ℕ) (ship : Ship) (booked : Bookings) (message : Message) (cargo : Cargo) (a : Answer) → IsMessageOf bytes message → Settles ship booked message.groups (Ok cargo) → IsNoBayPlan bytes a ⊎ IsUnsettled ship booked bytes a → ⊥
refused_plan bytes ship booked message cargo a is settled (inl k) = message_not_fault bytes message k.fault k.named is k.has
refused_plan bytes ship booked message cargo a is settled (inr k) =
    let e = one_message bytes k.message message k.is_message is in
    settled_not_refused ship booked message.groups cargo k.fault k.named settled (subst (λ (z : Message). Settles ship booked z.groups (Err k.fault)) e k.settles)

-- inputs that are accepted aren't refused
pub accepted_not_refused : (names : Names) (files : Files) (v : BookedVoyage) (a : Answer) → AreInputs names (Some files) v → TurnsDown names (Some files) a → ⊥
accepted_not_refused names files v a h (inl k) = ok_or_err profile_of h.accepted.profile k.profile v.ship k.fault (one_content files names.profile _ _ h.accepted.profile_is k.profile_is) h.accepted.ship_is k.fault_is
accepted_not_refused names files v a h (inr (inl k)) = ok_or_err bookings_of h.accepted.bookings k.bookings v.bookings k.fault (one_content files names.bookings _ _ h.accepted.bookings_is k.bookings_is) h.accepted.booked_is k.fault_is
accepted_not_refused names files v a h (inr (inr k)) =
    let e = one_accepted names files v.ship k.ship v.bookings k.booked h.accepted k.accepted in
    let plan = named_plan (Some files) names.arrival k.name v.message k.is_named h.comes_in in
    let same = one_content files k.name (plan.has).bytes k.bytes (plan.has).content k.content in
    let moved : Settles k.ship k.booked (plan.message).groups (Ok v.cargo) =
    subst (λ (z : Option Message). Settles k.ship k.booked (groups_of z) (Ok v.cargo)) plan.is
    (subst (λ (b : Bookings). Settles k.ship b (groups_of v.message) (Ok v.cargo)) e.1
    (subst (λ (s : Ship). Settles s v.bookings (groups_of v.message) (Ok v.cargo)) e.0 h.settled)) in
    refused_plan k.bytes k.ship k.booked plan.message v.cargo a (subst (λ (y : List ℕ). IsMessageOf y plan.message) same (plan.has).is_message) moved k.why

-- ## One refusal

one_why : (bytes : List ℕ) (ship : Ship) (booked : Bookings) (a b : Answer) → IsNoBayPlan bytes a ⊎ IsUnsettled ship booked bytes a → IsNoBayPlan bytes b ⊎ IsUnsettled ship booked bytes b → a ≡ b
one_why bytes ship booked a b (inl h) (inl k) =
    let e = one_baplie_fault bytes h.fault k.fault h.named k.named h.has k.has in
    h.answer_is ∙ ap (λ (f : BaplieFault). refused (file_line f)) e ∙ sym k.answer_is
one_why bytes ship booked a b (inl h) (inr k) = absurd (message_not_fault bytes k.message h.fault h.named k.is_message h.has)
one_why bytes ship booked a b (inr h) (inl k) = absurd (message_not_fault bytes h.message k.fault k.named h.is_message k.has)
one_why bytes ship booked a b (inr h) (inr k) =
    let m = one_message bytes h.message k.message h.is_message k.is_message in
    let e = one_fault ship booked (k.message).groups h.fault k.fault h.named k.named (subst (λ (z : Message). Settles ship booked z.groups (Err h.fault)) m h.settles) k.settles in
    h.answer_is ∙ ap (λ (f : ArrivalFault). refused (arrival_line f)) e ∙ sym k.answer_is

abbrev WhyOf : List ℕ → Ship → Bookings → Answer → Type 0
WhyOf bytes ship booked a = IsNoBayPlan bytes a ⊎ IsUnsettled ship booked bytes a

arrival_one : (names : Names) (files : Files) (a b : Answer) → RefusesArrival names (Some files) a → RefusesArrival names (Some files) b → a ≡ b
arrival_one names files a b h k =
    let e = one_accepted names files h.ship k.ship h.booked k.booked h.accepted k.accepted in
    let n : h.name ≡ k.name = same_Some h.name k.name (sym h.is_named ∙ k.is_named) in
    let same = one_content files k.name h.bytes k.bytes (subst (λ (z : List ℕ). IsContent (Some files) z h.bytes) n h.content) k.content in
    let moved : WhyOf k.bytes k.ship k.booked a =
    subst (λ (y : List ℕ). WhyOf y k.ship k.booked a) same
    (subst (λ (c : Bookings). WhyOf h.bytes k.ship c a) e.1
    (subst (λ (s : Ship). WhyOf h.bytes s h.booked a) e.0 h.why)) in
    one_why k.bytes k.ship k.booked a b moved k.why

profile_or_arrival : (names : Names) (files : Files) (a b : Answer) → RefusesProfile names (Some files) a → RefusesArrival names (Some files) b → ⊥
profile_or_arrival names files a b h k = ok_or_err profile_of (k.accepted).profile h.profile k.ship h.fault (one_content files names.profile _ _ (k.accepted).profile_is h.profile_is) (k.accepted).ship_is h.fault_is

bookings_or_arrival : (names : Names) (files : Files) (a b : Answer) → RefusesBookings names (Some files) a → RefusesArrival names (Some files) b → ⊥
bookings_or_arrival names files a b h k = ok_or_err bookings_of (k.accepted).bookings h.bookings k.booked h.fault (one_content files names.bookings _ _ (k.accepted).bookings_is h.bookings_is) (k.accepted).booked_is h.fault_is

pub turned_one : (names : Names) (files : Files) (a b : Answer) → TurnsDown names (Some files) a → TurnsDown names (Some files) b → a ≡ b
turned_one names files a b (inl h) (inl k) =
    let e = one_err profile_of h.profile k.profile h.fault k.fault (one_content files names.profile _ _ h.profile_is k.profile_is) h.fault_is k.fault_is in
    h.answer_is ∙ ap (λ (f : ProfileFault). refused (profile_line f)) e ∙ sym k.answer_is
turned_one names files a b (inl h) (inr (inl k)) = absurd (accepted_or_err profile_of k.profile h.profile h.fault (one_content files names.profile _ _ k.profile_is h.profile_is) k.accepted h.fault_is)
turned_one names files a b (inr (inl h)) (inl k) = absurd (accepted_or_err profile_of h.profile k.profile k.fault (one_content files names.profile _ _ h.profile_is k.profile_is) h.accepted k.fault_is)
turned_one names files a b (inr (inl h)) (inr (inl k)) =
    let e = one_err bookings_of h.bookings k.bookings h.fault k.fault (one_content files names.bookings _ _ h.bookings_is k.bookings_is) h.fault_is k.fault_is in
    h.answer_is ∙ ap (λ (f : BookingFault). refused (booking_line f)) e ∙ sym k.answer_is
turned_one names files a b (inl h) (inr (inr k)) = absurd (profile_or_arrival names files a b h k)
turned_one names files a b (inr (inr h)) (inl k) = absurd (profile_or_arrival names files b a k h)
turned_one names files a b (inr (inl h)) (inr (inr k)) = absurd (bookings_or_arrival names files a b h k)
turned_one names files a b (inr (inr h)) (inr (inl k)) = absurd (bookings_or_arrival names files b a k h)
turned_one names files a b (inr (inr h)) (inr (inr k)) = arrival_one names files a b h k
