-- Over files that are told, the answers to an order that names a call agree.
use Rattle.std.proofs.Common.{◌≡◌, ℕ, ◌+◌, List, length, Option, Some, None, refl, sym, ap, subst, ◌∙◌, inl, inr, arith}
use Rattle.std.specs.Prelude.{◌⊎◌, Result, Ok, Err}
use Rattle.stow_io.specs.Files.{Files}
use Rattle.stow_io.specs.declared.files.Work.{Work}
use Rattle.ship_profile.specs.ShipText.{profile_of}
use Rattle.stow_data.specs.Ship.{Ship}
use Rattle.bookings.specs.Reading.{bookings_of}
use Rattle.bookings.specs.declared.shipment.Bookings.{Bookings}
use Rattle.voyage_files.specs.declared.answer.Answer.{Answer}
use Rattle.voyage_files.specs.declared.answer.Answer.TheVariants as answer
use Rattle.voyage_files.specs.declared.voyage.BookedVoyage.{BookedVoyage}
use Rattle.voyage_files.specs.Names.{Names}
use Rattle.voyage_files.specs.Inputs.{AreAccepted, AreInputs, IsPast, RefusesBookings, RefusesCall, RefusesProfile, TurnsDownAt}
use Rattle.voyage_files.proofs.OneInput.{accepted_not_refused, one_content, one_inputs, turned_one}
use Rattle.stow_cli.specs.SharedOut.{SharedAs}
use Rattle.stow_cli.proofs.Alike.{alike}
use Rattle.stow_cli.specs.Cranes.{AreAllTexts, AreInTime, IsCranesTo, IsShared}
use Rattle.stow_cli.specs.Law.{BothShared}
use Rattle.stow_cli.proofs.OneCheck.{one_texts}

one_ok : {A E : Type 0} (f : List ℕ → Result A E) (x y : List ℕ) (a b : A) → x ≡ y → f x ≡ Ok a → f y ≡ Ok b → a ≡ b
one_ok f x y a b e h k = cc

ok_or_err : {A E : Type 0} (f : List ℕ → Result A E) (x y : List ℕ) (a : A) (b : E) → x ≡ y → f x ≡ Ok a → f y ≡ Err b → ⊥
ok_or_err f x y a b e h k = cc

module _ (names : Names) (files : Files) where
  same_booked : (s t : Ship) (b c : Bookings) → AreAccepted names (Some files) s b → AreAccepted names (Some files) t c → b ≡ c
  same_booked s t b c h k = one_ok bookings_of h.bookings k.bookings b c (one_content files names.bookings _ _ h.bookings_is k.bookings_is) h.booked_is k.booked_is

  profile_or_call : (call : Option ℕ) (a b : Answer) → RefusesProfile names (Some files) a → RefusesCall names call (Some files) b → ⊥
  profile_or_call call a b h k = ok_or_err profile_of (k.accepted).profile h.profile k.ship h.fault (one_content files names.profile _ _ (k.accepted).profile_is h.profile_is) (k.accepted).ship_is h.fault_is

  bookings_or_call : (call : Option ℕ) (a b : Answer) → RefusesBookings names (Some files) a → RefusesCall names call (Some files) b → ⊥
  bookings_or_call call a b h k = ok_or_err bookings_of (k.accepted).bookings h.bookings k.booked h.fault (one_content files names.bookings _ _ (k.accepted).bookings_is h.bookings_is) (k.accepted).booked_is h.fault_is

  -- a call that is past and one that isn't
  past_or_not : (call : Option ℕ) (s t : Ship) (b c : Bookings) → AreAccepted names (Some files) s b → AreAccepted names (Some files) t c → IsPast call b → (IsPast call c → ⊥) → ⊥
  past_or_not call s t b c h k past in_time = in_time (subst (IsPast call) (same_booked s t b c h k) past)

  turned_at_one : (call : Option ℕ) (a b : Answer) → TurnsDownAt names call (Some files) a → TurnsDownAt names call (Some files) b → a ≡ b
  turned_at_one call a b (inl h) (inl k) = turned_one names files a b (inl h) (inl k)
  turned_at_one call a b (inl h) (inr (inl k)) = turned_one names files a b (inl h) (inr (inl k))
  turned_at_one call a b (inl h) (inr (inr (inl k))) = absurd (profile_or_call call a b h k)
  turned_at_one call a b (inl h) (inr (inr (inr k))) = turned_one names files a b (inl h) (inr (inr k.arrival))
  turned_at_one call a b (inr (inl h)) (inl k) = turned_one names files a b (inr (inl h)) (inl k)
  turned_at_one call a b (inr (inl h)) (inr (inl k)) = turned_one names files a b (inr (inl h)) (inr (inl k))
  turned_at_one call a b (inr (inl h)) (inr (inr (inl k))) = absurd (bookings_or_call call a b h k)
  turned_at_one call a b (inr (inl h)) (inr (inr (inr k))) = turned_one names files a b (inr (inl h)) (inr (inr k.arrival))
  turned_at_one call a b (inr (inr (inl h))) (inl k) = absurd (profile_or_call call b a k h)
  turned_at_one call a b (inr (inr (inl h))) (inr (inl k)) = absurd (bookings_or_call call b a k h)
  turned_at_one call a b (inr (inr (inl h))) (inr (inr (inl k))) = h.answer_is ∙ sym k.answer_is
  turned_at_one call a b (inr (inr (inl h))) (inr (inr (inr k))) = absurd (past_or_not call h.ship (k.arrival).ship h.booked (k.arrival).booked h.accepted (k.arrival).accepted h.past k.in_time)
  turned_at_one call a b (inr (inr (inr h))) (inl k) = turned_one names files a b (inr (inr h.arrival)) (inl k)
  turned_at_one call a b (inr (inr (inr h))) (inr (inl k)) = turned_one names files a b (inr (inr h.arrival)) (inr (inl k))
  turned_at_one call a b (inr (inr (inr h))) (inr (inr (inl k))) = absurd (past_or_not call k.ship (h.arrival).ship k.booked (h.arrival).booked k.accepted (h.arrival).accepted k.past h.in_time)
  turned_at_one call a b (inr (inr (inr h))) (inr (inr (inr k))) = turned_one names files a b (inr (inr h.arrival)) (inr (inr k.arrival))

-- inputs that are accepted with a call in time aren't turned down
pub in_time_not_turned : (names : Names) (call : Option ℕ) (files : Files) (v : BookedVoyage) (a : Answer) → AreInputs names (Some files) v → (IsPast call v.bookings → ⊥) → TurnsDownAt names call (Some files) a → ⊥
in_time_not_turned names call files v a h in_time (inl k) = accepted_not_refused names files v a h (inl k)
in_time_not_turned names call files v a h in_time (inr (inl k)) = accepted_not_refused names files v a h (inr (inl k))
in_time_not_turned names call files v a h in_time (inr (inr (inl k))) = past_or_not names files call k.ship v.ship k.booked v.bookings k.accepted h.accepted k.past in_time
in_time_not_turned names call files v a h in_time (inr (inr (inr k))) = accepted_not_refused names files v a h (inr (inr k.arrival))

pub same_texts : (base : List ℕ) (files : Files) (v : BookedVoyage) (xs ys : List (List ℕ)) → AreAllTexts base (Some files) v xs → AreAllTexts base (Some files) v ys → xs ≡ ys
same_texts base files v xs ys h k =
    let first = h.each_call in
    let second = k.each_call in
    let e : length xs ≡ length ys = omega (arith, first, second) in
    one_texts base files 1 xs ys e h.are_texts k.are_texts

-- two answers to the departure files of one voyage
shared_agree : (names : Names) (call cranes : ℕ) (files : Files) (v : BookedVoyage) (a b : Answer) → AreInTime names call (Some files) v → IsShared names.base (Some files) call cranes v a → IsShared names.base (Some files) call cranes v b → (a ≡ b) ⊎ BothShared names call cranes (Some files) a b
shared_agree names call cranes files v a b in_time h k =
    let same = same_texts names.base files v h.texts k.texts h.all k.all in
    let first = subst (λ (ts : List (List ℕ)). SharedAs v call cranes ts a) same h.shared in
    by a b first k.shared
  where
    by : (x y : Answer) → SharedAs v call cranes k.texts x → SharedAs v call cranes k.texts y → (x ≡ y) ⊎ BothShared names call cranes (Some files) x y
    by (answer.Work w) (answer.Work z) p q = inr (record { voyage = v; accepted = in_time; texts = k.texts; all = k.all; work = w; other = z; first = refl; second = refl; first_shares = p; second_shares = q })
    by (answer.Work w) (answer.No line) p q = inl (alike v call cranes k.texts (k.problem).ship (k.problem).cargo (answer.Work w) (answer.No line) p q)
    by (answer.No line) y p q = inl (alike v call cranes k.texts (k.problem).ship (k.problem).cargo (answer.No line) y p q)
    by (answer.Work w) (answer.Input line) p q = absurd q
    by (answer.Work w) (answer.Large line) p q = absurd q
    by (answer.Work w) answer.Call p q = absurd q
    by (answer.Input line) y p q = absurd p
    by (answer.Large line) y p q = absurd p
    by answer.Call y p q = absurd p

pub cranes_agree : (names : Names) (call cranes : ℕ) (files : Files) (a b : Answer) → IsCranesTo names call cranes (Some files) a → IsCranesTo names call cranes (Some files) b → (a ≡ b) ⊎ BothShared names call cranes (Some files) a b
cranes_agree names call cranes files a b (inl h) (inl k) =
    let e = one_inputs names files h.voyage k.voyage (h.accepted).inputs_are (k.accepted).inputs_are in
    shared_agree names call cranes files k.voyage a b k.accepted (subst (λ (v : BookedVoyage). IsShared names.base (Some files) call cranes v a) e h.is_shared) k.is_shared
cranes_agree names call cranes files a b (inl h) (inr k) = absurd (in_time_not_turned names (Some call) files h.voyage b (h.accepted).inputs_are (h.accepted).in_time k)
cranes_agree names call cranes files a b (inr h) (inl k) = absurd (in_time_not_turned names (Some call) files k.voyage a (k.accepted).inputs_are (k.accepted).in_time h)
cranes_agree names call cranes files a b (inr h) (inr k) = inl (turned_at_one names files (Some call) a b h k)
