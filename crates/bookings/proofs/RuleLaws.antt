-- Bookings that were read obey the rules.
use Rattle.std.proofs.Common.{◌≡◌, ◌≢◌, ℕ, suc, ◌+◌, ◌<◌, ◌≤◌, Bool, true, false, ◌||◌, List, Ok, Err, [], ◌∷◌, ◌++◌, length, Option, Some, None, Result, refl, sym, ap, subst, ◌∙◌, arith}
use Rattle.std.specs.Prelude.{All, AllPairs, IfOk, IfSome, ℤ, ◌-◌, ◌==◌, ◌≤ℤ◌, codes, nat_le, nat_lt, negsuc, not, ok_or, pos, replicate}
use Rattle.std.specs.Str.{bytes_eq}
use Rattle.std.proofs.lemmas.Bool.{eqb-true, false≢true, leb-true}
use Rattle.std.proofs.lemmas.List.{length-replicate}
use Rattle.std.proofs.lemmas.List.Elements.{All-cons, All-get_or, All-nil, All-push, All-replicate}
use Rattle.std.proofs.lemmas.List.Quantifiers.{all_pairs_push}
use Rattle.std.proofs.lemmas.Slice.Eq.{bytes_eq-Decides}
use Rattle.toml.specs.Data.{Data, Items, Members, no_items}
use Rattle.stow_data.specs.Profile.{is_class, is_name}
use Rattle.toml_values.specs.declared.of_values.Unread.{Unread}
use Rattle.stow_data.specs.Types.{length_of_type}
use Rattle.toml_values.specs.Values.{◌>>=◌, array_of, at_key, document_of, flag_of, if_there, is_code, is_digits, number_of, or_default, signed_of, table_of, text_that}
use Rattle.toml_values.specs.Arrays.{each_after, each_of, item_count, tables_of}
use Rattle.toml_values.proofs.ValueLaws.{bound, default_or, err_is_no_ok, if_there_or, number_within, passed, passes, same_Ok, signed_within, text_passes, under_key}
use Rattle.toml_values.proofs.ArrayLaws.{each_count, each_keeps}
use Rattle.bookings.specs.declared.booking_keys.BookingKey.{BookingKey}
use Rattle.bookings.specs.declared.booking_keys.BookingKey.TheVariants as key
use Rattle.bookings.specs.declared.faults.BookingFault.{BookingFault}
use Rattle.bookings.specs.declared.faults.BookingFault.TheVariants.{NotToml, CallOrder, LengthUnknown, DuplicateId, TooLarge}
use Rattle.bookings.specs.declared.shipment.Booking.{Booking}
use Rattle.bookings.specs.declared.shipment.Bookings.{Bookings}
use Rattle.stow_data.specs.declared.limits.Limit.TheVariants as limit
use Rattle.bookings.specs.Spelling.{spelling}
use Rattle.bookings.specs.Reading.{Gives, booking_at, booking_of, bookings_in, bookings_of, containers_in, ensure, has_id, may, need, of_key, or_else, ports_of, prices_of, rotation_in, tariff_in}
use Rattle.bookings.specs.Rules.{IsBooking, IsBookings}
use Rattle.bookings.proofs.BookingLaws.{key_read}

pub ensured : {B : Type 0} (so : Bool) (fault : BookingFault) (f : Unit {0} → Result B BookingFault) (y : B) → (ensure so fault >>= f) ≡ Ok y → (so ≡ true) × (f tt ≡ Ok y)
ensured true fault f y h = (refl, h)
ensured false fault f y h = absurd (err_is_no_ok fault y h)

-- a value that was there has what each value that is read has
needed : {X : Type 0} (P : X → Type 0) (key : BookingKey) (read : Data → Result X Unread) → ((d : Data) (x : X) → read d ≡ Ok x → P x) → (index : ℕ) (entry : Members) (x : X) → need key read index entry ≡ Ok x → P x
needed P key read f index entry x h = under_key read P f (spelling key) entry x (key_read key index (at_key read (spelling key) entry) x h)

defaulted : {X : Type 0} (P : X → Type 0) (d : X) (key : BookingKey) (read : Data → Result X Unread) → P d → ((d : Data) (x : X) → read d ≡ Ok x → P x) → (index : ℕ) (entry : Members) (x : X) → or_else d key read index entry ≡ Ok x → P x
defaulted P d key read p f index entry x h =
    let r = at_key read (spelling key) entry in
    default_or P d r x p (λ y k. under_key read P f (spelling key) entry y k) (key_read key index (or_default d r) x h)

allowed : {X : Type 0} (P : X → Type 0) (key : BookingKey) (read : Data → Result X Unread) → ((d : Data) (x : X) → read d ≡ Ok x → P x) → (index : ℕ) (entry : Members) (o : Option X) → may key read index entry ≡ Ok o → IfSome o P
allowed P key read f index entry o h =
    let r = at_key read (spelling key) entry in
    if_there_or P r o (λ x k. under_key read P f (spelling key) entry x k) (key_read key index (if_there r) o h)

wanted : {X : Type 0} (o : Option X) (fault : BookingFault) (x : X) → ok_or o fault ≡ Ok x → o ≡ Some x
wanted (Some y) fault x h = ap (λ z. Some z) (same_Ok y x h)
wanted None fault x h = absurd (err_is_no_ok fault x h)

not_so : (b : Bool) → not b ≡ true → b ≡ true → ⊥
not_so true h k = false≢true h
not_so false h k = false≢true k

or_parts : (a b : Bool) → not (a || b) ≡ true → (not a ≡ true) × (not b ≡ true)
or_parts true b h = absurd (false≢true h)
or_parts false b h = (refl, h)

-- none of these has the id
others : (id : List ℕ) (bs : List Booking) → not (has_id id bs) ≡ true → All (λ b. b.id ≢ id) bs
others id [] h = All-nil (λ b. b.id ≢ id)
others id (b ∷ bs) h =
    let p = or_parts (bytes_eq b.id id) (has_id id bs) h in
    All-cons (λ b. b.id ≢ id) b bs (λ e. not_so (bytes_eq b.id id) p.0 ((bytes_eq-Decides b.id id).1 e)) (others id bs p.1)

-- what holds of an entry's booking
pub record IsNext (calls : ℕ) (before : List Booking) (b : Booking) : Type 0 where
  pub rules : IsBooking calls b
  pub other_ids : All (λ c. c.id ≢ b.id) before

-- an entry's last steps, after its keys
checked_of : List Booking → ℕ → List ℕ → ℕ → ℕ → List ℕ → ℕ → Bool → Bool → Option ℤ → Option (List ℕ) → ℕ → Result Booking BookingFault
checked_of before index id load dest iso kg vgm empty temperature class unno = do
  order ← ensure (nat_lt load dest) (CallOrder index)
  long ← ok_or (length_of_type iso) (LengthUnknown index)
  once ← ensure (not (has_id id before)) (DuplicateId index)
  Ok (record { id = id; load = load; dest = dest; iso = iso; long = long; kg = kg; vgm = vgm; empty = empty; temperature = temperature; class = class; unno = unno })

-- its keys that may be missing, and what follows
noted_of : List Booking → ℕ → Members → List ℕ → ℕ → ℕ → List ℕ → ℕ → Result Booking BookingFault
noted_of before index entry id load dest iso kg = do
  vgm ← or_else false key.Vgm flag_of index entry
  empty ← or_else false key.Empty flag_of index entry
  temperature ← may key.Temperature (signed_of (negsuc 98) (pos 99)) index entry
  class ← may key.Class (text_that is_class) index entry
  unno ← or_else 0 key.Unno (number_of 0 9999) index entry
  checked_of before index id load dest iso kg vgm empty temperature class unno

abbrev keyed_of : ℕ → List Booking → ℕ → Members → Result Booking BookingFault
keyed_of calls before index entry = do
  id ← need key.Id (text_that (is_code 17)) index entry
  load ← need key.From (number_of 1 calls) index entry
  dest ← need key.To (number_of 1 calls) index entry
  iso ← need key.IsoType (text_that (is_code 10)) index entry
  kg ← need key.Kg (number_of 0 99999) index entry
  noted_of before index entry id load dest iso kg

in_parts : (calls : ℕ) (before : List Booking) (entry : Members) → booking_of calls before entry ≡ keyed_of calls before (length before + 1) entry
unfolding booking_of noted_of checked_of
in_parts calls before entry = refl

record IsChecked (before : List Booking) (id : List ℕ) (load dest : ℕ) (iso : List ℕ) (kg : ℕ) (temperature : Option ℤ) (class : Option (List ℕ)) (unno : ℕ) (b : Booking) : Type 0 where
  pub id_is : id ≡ b.id
  pub load_is : load ≡ b.load
  pub dest_is : dest ≡ b.dest
  pub iso_is : iso ≡ b.iso
  pub kg_is : kg ≡ b.kg
  pub temperature_is : temperature ≡ b.temperature
  pub class_is : class ≡ b.class
  pub unno_is : unno ≡ b.unno
  pub later : b.load < b.dest
  pub long : length_of_type b.iso ≡ Some b.long
  pub other_ids : All (λ c. c.id ≢ b.id) before

checked_is : (before : List Booking) (index : ℕ) (id : List ℕ) (load dest : ℕ) (iso : List ℕ) (kg : ℕ) (vgm empty : Bool) (temperature : Option ℤ) (class : Option (List ℕ)) (unno : ℕ) (b : Booking) → checked_of before index id load dest iso kg vgm empty temperature class unno ≡ Ok b → IsChecked before id load dest iso kg temperature class unno b
unfolding checked_of
checked_is before index id load dest iso kg vgm empty temperature class unno b h =
    let order = ensured (nat_lt load dest) (CallOrder index) _ b h in
    let long = bound (ok_or (length_of_type iso) (LengthUnknown index)) _ b order.1 in
    let once = ensured (not (has_id id before)) (DuplicateId index) _ b long.goes_on in
    let later = leb-true (suc load) dest order.0 in
    subst (IsChecked before id load dest iso kg temperature class unno) (same_Ok _ b once.1) record {
      id_is = refl;
      load_is = refl;
      dest_is = refl;
      iso_is = refl;
      kg_is = refl;
      temperature_is = refl;
      class_is = refl;
      unno_is = refl;
      later = omega (arith, later);
      long = wanted (length_of_type iso) (LengthUnknown index) long.value long.is;
      other_ids = others id before once.0;
    }

record IsNoted (before : List Booking) (id : List ℕ) (load dest : ℕ) (iso : List ℕ) (kg : ℕ) (b : Booking) : Type 0 where
  pub temperature : Option ℤ
  pub class : Option (List ℕ)
  pub unno : ℕ
  pub checked : IsChecked before id load dest iso kg temperature class unno b
  pub temperature_from : IfSome b.temperature (λ t. negsuc 98 ≤ℤ t)
  pub temperature_to : IfSome b.temperature (λ t. t ≤ℤ pos 99)
  pub classed : IfSome b.class (λ s. is_class s ≡ true)
  pub unno_to : b.unno ≤ 9999

noted_is : (before : List Booking) (index : ℕ) (entry : Members) (id : List ℕ) (load dest : ℕ) (iso : List ℕ) (kg : ℕ) (b : Booking) → noted_of before index entry id load dest iso kg ≡ Ok b → IsNoted before id load dest iso kg b
unfolding noted_of
noted_is before index entry id load dest iso kg b h =
    let vgm = bound (or_else false key.Vgm flag_of index entry) _ b h in
    let empty = bound (or_else false key.Empty flag_of index entry) _ b vgm.goes_on in
    let temperature = bound (may key.Temperature (signed_of (negsuc 98) (pos 99)) index entry) _ b empty.goes_on in
    let class = bound (may key.Class (text_that is_class) index entry) _ b temperature.goes_on in
    let unno = bound (or_else 0 key.Unno (number_of 0 9999) index entry) _ b class.goes_on in
    let c = checked_is before index id load dest iso kg vgm.value empty.value temperature.value class.value unno.value b unno.goes_on in
    let least = allowed (λ t. negsuc 98 ≤ℤ t) key.Temperature (signed_of (negsuc 98) (pos 99)) (λ d z k. (signed_within (negsuc 98) (pos 99) d z k).0) index entry temperature.value temperature.is in
    let most = allowed (λ t. t ≤ℤ pos 99) key.Temperature (signed_of (negsuc 98) (pos 99)) (λ d z k. (signed_within (negsuc 98) (pos 99) d z k).1) index entry temperature.value temperature.is in
    let classed = allowed (λ s. is_class s ≡ true) key.Class (text_that is_class) (text_passes is_class) index entry class.value class.is in
    let unno_to = defaulted (λ n. n ≤ 9999) 0 key.Unno (number_of 0 9999) (omega arith) (λ d n k. (number_within 0 9999 d n k).1) index entry unno.value unno.is in
    record {
      temperature = temperature.value;
      class = class.value;
      unno = unno.value;
      checked = c;
      temperature_from = subst (λ o. IfSome o (λ t. negsuc 98 ≤ℤ t)) c.temperature_is least;
      temperature_to = subst (λ o. IfSome o (λ t. t ≤ℤ pos 99)) c.temperature_is most;
      classed = subst (λ o. IfSome o (λ s. is_class s ≡ true)) c.class_is classed;
      unno_to = subst (λ n. n ≤ 9999) c.unno_is unno_to;
    }

keyed_is : (calls : ℕ) (before : List Booking) (index : ℕ) (entry : Members) (b : Booking) → keyed_of calls before index entry ≡ Ok b → IsNext calls before b
keyed_is calls before index entry b h =
    let id = bound (need key.Id (text_that (is_code 17)) index entry) _ b h in
    let load = bound (need key.From (number_of 1 calls) index entry) _ b id.goes_on in
    let dest = bound (need key.To (number_of 1 calls) index entry) _ b load.goes_on in
    let iso = bound (need key.IsoType (text_that (is_code 10)) index entry) _ b dest.goes_on in
    let kg = bound (need key.Kg (number_of 0 99999) index entry) _ b iso.goes_on in
    let n = noted_is before index entry id.value load.value dest.value iso.value kg.value b kg.goes_on in
    let c = n.checked in
    let identified = needed (λ s. is_code 17 s ≡ true) key.Id (text_that (is_code 17)) (text_passes (is_code 17)) index entry id.value id.is in
    let least = needed (λ n. 1 ≤ n) key.From (number_of 1 calls) (λ d n k. (number_within 1 calls d n k).0) index entry load.value load.is in
    let most = needed (λ n. n ≤ calls) key.To (number_of 1 calls) (λ d n k. (number_within 1 calls d n k).1) index entry dest.value dest.is in
    let typed = needed (λ s. is_code 10 s ≡ true) key.IsoType (text_that (is_code 10)) (text_passes (is_code 10)) index entry iso.value iso.is in
    let kg_to = needed (λ n. n ≤ 99999) key.Kg (number_of 0 99999) (λ d n k. (number_within 0 99999 d n k).1) index entry kg.value kg.is in
    record {
      rules = record {
        identified = subst (λ s. is_code 17 s ≡ true) c.id_is identified;
        from_first = subst (λ n. 1 ≤ n) c.load_is least;
        later = c.later;
        in_rotation = subst (λ n. n ≤ calls) c.dest_is most;
        typed = subst (λ s. is_code 10 s ≡ true) c.iso_is typed;
        long = c.long;
        kg_to = subst (λ n. n ≤ 99999) c.kg_is kg_to;
        temperature_from = n.temperature_from;
        temperature_to = n.temperature_to;
        classed = n.classed;
        unno_to = n.unno_to;
      };
      other_ids = c.other_ids;
    }

booking_is : (calls : ℕ) (before : List Booking) (entry : Members) (b : Booking) → booking_of calls before entry ≡ Ok b → IsNext calls before b
booking_is calls before entry b h = keyed_is calls before (length before + 1) entry b (sym (in_parts calls before entry) ∙ h)

booking_at_is : (calls : ℕ) (before : List Booking) (d : Data) (b : Booking) → booking_at calls before d ≡ Ok b → IsNext calls before b
unfolding booking_at
booking_at_is calls before d b h =
    let entry = bound (of_key key.Container 0 (table_of d)) _ b h in
    booking_is calls before entry.value b entry.goes_on

-- what is true of the bookings of entries
record IsList (calls : ℕ) (bs : List Booking) : Type 0 where
  pub ids_differ : AllPairs (λ c d. c.id ≢ d.id) bs
  pub each : All (IsBooking calls) bs

none_is : (calls : ℕ) → IsList calls []
none_is calls = record { ids_differ = λ i j d lt within. absurd (omega arith); each = All-nil (IsBooking calls) }

list_is : (calls : ℕ) (entries : Items) (bs : List Booking) → each_after (booking_at calls) [] entries ≡ Ok bs → IsList calls bs
list_is calls entries bs h = each_keeps (booking_at calls) (IsList calls) keeps [] entries bs (none_is calls) h
  where
    keeps : (before : List Booking) (d : Data) (b : Booking) → IsList calls before → booking_at calls before d ≡ Ok b → IsList calls (before ++ b ∷ [])
    keeps before d b so_far k =
        let next = booking_at_is calls before d b k in
        record {
          ids_differ = all_pairs_push (λ c d. c.id ≢ d.id) before b so_far.ids_differ (λ i c lt. All-get_or (λ c. c.id ≢ b.id) before i c lt next.other_ids);
          each = All-push (IsBooking calls) before b so_far.each next.rules;
        }

-- what is true of a rotation
pub record IsRotation (ports : List (List ℕ)) : Type 0 where
  pub calls_from : 2 ≤ length ports
  pub calls_to : length ports ≤ 12
  pub each_port : All (λ port. is_code 35 port ≡ true) ports

pub rotation_is : (top : Members) (ports : List (List ℕ)) → rotation_in top ≡ Ok ports → IsRotation ports
unfolding rotation_in
rotation_is top ports h =
    let items = bound (need key.Rotation array_of 0 top) _ ports h in
    let read = bound (of_key key.Rotation 0 (ports_of items.value)) _ ports items.goes_on in
    let few = ensured (nat_le (length read.value) 12) (TooLarge limit.Calls (length read.value)) _ ports read.goes_on in
    let all = bound (each_of (text_that (is_code 35)) items.value) _ read.value (key_read key.Rotation 0 (ports_of items.value) read.value read.is) in
    let two = passes (λ ports. nat_le 2 (length ports)) all.value read.value all.goes_on in
    let each = each_keeps (λ _. text_that (is_code 35)) (All (λ port. is_code 35 port ≡ true)) (λ before d port so_far k. All-push (λ port. is_code 35 port ≡ true) before port so_far (text_passes (is_code 35) d port k)) [] items.value all.value (All-nil (λ port. is_code 35 port ≡ true)) all.is in
    subst IsRotation (same_Ok read.value ports few.1) record {
      calls_from = leb-true 2 (length read.value) two;
      calls_to = leb-true (length read.value) 12 few.0;
      each_port = subst (All (λ port. is_code 35 port ≡ true)) (passed (λ ports. nat_le 2 (length ports)) all.value read.value all.goes_on) each;
    }

-- what is true of a tariff
pub record IsTariff (calls : ℕ) (prices : List ℕ) : Type 0 where
  pub each_priced : length prices + 1 ≡ calls
  pub prices_to : All (λ price. price ≤ 1000) prices

prices_are : (calls : ℕ) (items : Option Items) (prices : List ℕ) → 1 ≤ calls → prices_of calls items ≡ Ok prices → IsTariff calls prices
prices_are calls (Some items) prices some h =
    let all = bound (each_of (number_of 0 1000) items) _ prices h in
    let count = eqb-true (length prices) (calls - 1) (passes (λ ps. length ps == calls - 1) all.value prices all.goes_on) in
    let each = each_keeps (λ _. number_of 0 1000) (All (λ price. price ≤ 1000)) (λ before d price so_far k. All-push (λ price. price ≤ 1000) before price so_far (number_within 0 1000 d price k).1) [] items all.value (All-nil (λ price. price ≤ 1000)) all.is in
    record {
      each_priced = omega (arith, count, some);
      prices_to = subst (All (λ price. price ≤ 1000)) (passed (λ ps. length ps == calls - 1) all.value prices all.goes_on) each;
    }
prices_are calls None prices some h =
    subst (IsTariff calls) (same_Ok (replicate (calls - 1) 1) prices h) record {
      each_priced = omega (arith, length-replicate {A = ℕ} (calls - 1) 1, some);
      prices_to = All-replicate (λ price. price ≤ 1000) (calls - 1) 1 (omega arith);
    }

pub tariff_is : (calls : ℕ) (top : Members) (prices : List ℕ) → 1 ≤ calls → tariff_in calls top ≡ Ok prices → IsTariff calls prices
unfolding tariff_in
tariff_is calls top prices some h =
    let items = bound (may key.Tariff array_of 0 top) _ prices h in
    prices_are calls items.value prices some (key_read key.Tariff 0 (prices_of calls items.value) prices items.goes_on)

-- what is true of the containers
record AreContainers (calls : ℕ) (bs : List Booking) : Type 0 where
  pub few : length bs ≤ 2000
  pub list : IsList calls bs

containers_are : (calls : ℕ) (top : Members) (bs : List Booking) → containers_in calls top ≡ Ok bs → AreContainers calls bs
unfolding containers_in
containers_are calls top bs h =
    let entries = bound (or_else no_items key.Container tables_of 0 top) _ bs h in
    let few = ensured (nat_le (item_count entries.value) 2000) (TooLarge limit.Containers (item_count entries.value)) _ bs entries.goes_on in
    let to = leb-true (item_count entries.value) 2000 few.0 in
    let count = each_count (booking_at calls) [] entries.value bs few.1 in
    record { few = omega (arith, to, count); list = list_is calls entries.value bs few.1 }

pub bookings_in_are : (top : Members) (b : Bookings) → bookings_in top ≡ Ok b → IsBookings b
unfolding bookings_in
bookings_in_are top b h =
    let vessel = bound (need key.Vessel (text_that is_name) 0 top) _ b h in
    let voyage = bound (need key.Voyage (text_that is_name) 0 top) _ b vessel.goes_on in
    let sender = bound (or_else (codes "STOW") key.Sender (text_that is_name) 0 top) _ b voyage.goes_on in
    let recipient = bound (or_else (codes "STOW") key.Recipient (text_that is_name) 0 top) _ b sender.goes_on in
    let date = bound (need key.Date (text_that (is_digits 10)) 0 top) _ b recipient.goes_on in
    let rotation = bound (rotation_in top) _ b date.goes_on in
    let tariff = bound (tariff_in (length rotation.value) top) _ b rotation.goes_on in
    let containers = bound (containers_in (length rotation.value) top) _ b tariff.goes_on in
    let calls = rotation_is top rotation.value rotation.is in
    let from = calls.calls_from in
    let priced = tariff_is (length rotation.value) top tariff.value (omega (arith, from)) tariff.is in
    let booked = containers_are (length rotation.value) top containers.value containers.is in
    subst IsBookings (same_Ok _ b containers.goes_on) record {
      vessel_named = needed (λ s. is_name s ≡ true) key.Vessel (text_that is_name) (text_passes is_name) 0 top vessel.value vessel.is;
      voyage_named = needed (λ s. is_name s ≡ true) key.Voyage (text_that is_name) (text_passes is_name) 0 top voyage.value voyage.is;
      sender_named = defaulted (λ s. is_name s ≡ true) (codes "STOW") key.Sender (text_that is_name) refl (text_passes is_name) 0 top sender.value sender.is;
      recipient_named = defaulted (λ s. is_name s ≡ true) (codes "STOW") key.Recipient (text_that is_name) refl (text_passes is_name) 0 top recipient.value recipient.is;
      dated = needed (λ s. is_digits 10 s ≡ true) key.Date (text_that (is_digits 10)) (text_passes (is_digits 10)) 0 top date.value date.is;
      calls_from = calls.calls_from;
      calls_to = calls.calls_to;
      each_port = calls.each_port;
      each_priced = priced.each_priced;
      prices_to = priced.prices_to;
      few = booked.few;
      ids_differ = booked.list.ids_differ;
      each_booking = booked.list.each;
    }

-- the bookings of a text obey the rules
pub bookings_are : (bytes : List ℕ) (b : Bookings) → bookings_of bytes ≡ Ok b → IsBookings b
unfolding bookings_of
bookings_are bytes b h = let top = bound (ok_or (document_of bytes) NotToml) bookings_in b h in bookings_in_are top.value b top.goes_on

pub valid_where : (P : Bookings → Type 0) (r read : Result Bookings BookingFault) → Gives r read → ((b : Bookings) → read ≡ Ok b → P b) → IfOk r P
valid_where P (Ok b) read h f = f b h
valid_where P (Err e) read h f = tt
