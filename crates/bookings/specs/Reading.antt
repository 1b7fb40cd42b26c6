-- The bookings of a text, or its first fault: key after key, and entry after entry.
use Rattle.std.specs.Prelude.{Bool, Err, List, MatchResult, None, Ok, Option, Result, Some, [], false, codes, if◌then◌else◌, length, nat_le, nat_lt, negsuc, not, ok_or, pos, replicate, ℕ, ◌+◌, ◌-◌, ◌==◌, ◌≡◌, ◌≢◌}
use Rattle.std.specs.List.{list_any}
use Rattle.std.specs.Str.{bytes_eq}
use Rattle.toml.specs.Data.{Data, Items, Members, no_items}
use Rattle.stow_data.specs.declared.limits.Limit.TheVariants as limit
use Rattle.stow_data.specs.Profile.{is_class, is_name}
use Rattle.stow_data.specs.Types.{length_of_type}
use Rattle.toml_values.specs.declared.of_values.Unread.{Unread}
use Rattle.toml_values.specs.declared.of_values.Unread.TheVariants as unread
use Rattle.toml_values.specs.Values.{◌>>=◌, array_of, at_key, document_of, flag_of, if_there, is_code, is_digits, number_of, or_default, passing, signed_of, table_of, text_that}
use Rattle.toml_values.specs.Arrays.{each_after, each_of, item_count, tables_of}
use Rattle.bookings.specs.declared.booking_keys.BookingKey.{BookingKey}
use Rattle.bookings.specs.declared.booking_keys.BookingKey.TheVariants as key
use Rattle.bookings.specs.declared.faults.BookingFault.{BookingFault}
use Rattle.bookings.specs.declared.faults.BookingFault.TheVariants.{NotToml, Missing, BadValue, CallOrder, LengthUnknown, DuplicateId, TooLarge, NoMemory}
use Rattle.bookings.specs.declared.shipment.Booking.{Booking}
use Rattle.bookings.specs.declared.shipment.Bookings.{Bookings}
use Rattle.bookings.specs.Spelling.{spelling}

-- what was read, or the fault of this key in this entry
abbrev pub of_key : {X : Type 0} → BookingKey → ℕ → Result X Unread → Result X BookingFault
of_key key index (Ok x) = Ok x
of_key key index (Err unread.Missing) = Err (Missing key index)
of_key key index (Err unread.BadValue) = Err (BadValue key index)

-- the value of a key of an entry
abbrev pub need : {X : Type 0} → BookingKey → (Data → Result X Unread) → ℕ → Members → Result X BookingFault
need key read index entry = of_key key index (at_key read (spelling key) entry)

-- the value of a key that may be missing and then stands for a default
abbrev pub or_else : {X : Type 0} → X → BookingKey → (Data → Result X Unread) → ℕ → Members → Result X BookingFault
or_else default key read index entry = of_key key index (or_default default (at_key read (spelling key) entry))

-- the value of a key that may be missing
abbrev pub may : {X : Type 0} → BookingKey → (Data → Result X Unread) → ℕ → Members → Result (Option X) BookingFault
may key read index entry = of_key key index (if_there (at_key read (spelling key) entry))

-- a fault where this isn't so
abbrev pub ensure : Bool → BookingFault → Result (Unit {0}) BookingFault
ensure so fault = if so then Ok tt else Err fault

-- the ports of the calls, at least two
abbrev pub ports_of : Items → Result (List (List ℕ)) Unread
ports_of items = each_of (text_that (is_code 35)) items >>= passing (λ ports. nat_le 2 (length ports))

-- the ports of a rotation of at most 12 calls
unfoldable pub rotation_in : Members → Result (List (List ℕ)) BookingFault
rotation_in top = do
  items ← need key.Rotation array_of 0 top
  ports ← of_key key.Rotation 0 (ports_of items)
  few ← ensure (nat_le (length ports) 12) (TooLarge limit.Calls (length ports))
  Ok ports

-- the prices of a list, one for each call but the last; all 1 where there is no list
abbrev pub prices_of : ℕ → Option Items → Result (List ℕ) Unread
prices_of calls (Some items) = each_of (number_of 0 1000) items >>= passing (λ prices. length prices == calls - 1)
prices_of calls None = Ok (replicate (calls - 1) 1)

-- the tariff of a rotation of so many calls, which may be missing
unfoldable pub tariff_in : ℕ → Members → Result (List ℕ) BookingFault
tariff_in calls top = do
  items ← may key.Tariff array_of 0 top
  of_key key.Tariff 0 (prices_of calls items)

abbrev pub has_id : List ℕ → List Booking → Bool
has_id id bookings = list_any (λ b. bytes_eq b.id id) bookings

-- the booking of an entry, which comes after these
unfoldable pub booking_of : ℕ → List Booking → Members → Result Booking BookingFault
booking_of calls before entry = let index = length before + 1 in do
  id ← need key.Id (text_that (is_code 17)) index entry
  load ← need key.From (number_of 1 calls) index entry
  dest ← need key.To (number_of 1 calls) index entry
  iso ← need key.IsoType (text_that (is_code 10)) index entry
  kg ← need key.Kg (number_of 0 99999) index entry
  vgm ← or_else false key.Vgm flag_of index entry
  empty ← or_else false key.Empty flag_of index entry
  temperature ← may key.Temperature (signed_of (negsuc 98) (pos 99)) index entry
  class ← may key.Class (text_that is_class) index entry
  unno ← or_else 0 key.Unno (number_of 0 9999) index entry
  order ← ensure (nat_lt load dest) (CallOrder index)
  long ← ok_or (length_of_type iso) (LengthUnknown index)
  once ← ensure (not (has_id id before)) (DuplicateId index)
  Ok (record { id = id; load = load; dest = dest; iso = iso; long = long; kg = kg; vgm = vgm; empty = empty; temperature = temperature; class = class; unno = unno })

unfoldable pub booking_at : ℕ → List Booking → Data → Result Booking BookingFault
booking_at calls before d = of_key key.Container 0 (table_of d) >>= booking_of calls before

-- the bookings of at most 2,000 entries, of which there may be none
unfoldable pub containers_in : ℕ → Members → Result (List Booking) BookingFault
containers_in calls top = do
  entries ← or_else no_items key.Container tables_of 0 top
  few ← ensure (nat_le (item_count entries) 2000) (TooLarge limit.Containers (item_count entries))
  each_after (booking_at calls) [] entries

-- the bookings of a document
unfoldable pub bookings_in : Members → Result Bookings BookingFault
bookings_in top = do
  vessel ← need key.Vessel (text_that is_name) 0 top
  voyage ← need key.Voyage (text_that is_name) 0 top
  sender ← or_else (codes "STOW") key.Sender (text_that is_name) 0 top
  recipient ← or_else (codes "STOW") key.Recipient (text_that is_name) 0 top
  date ← need key.Date (text_that (is_digits 10)) 0 top
  rotation ← rotation_in top
  tariff ← tariff_in (length rotation) top
  containers ← containers_in (length rotation) top
  Ok (record { vessel = vessel; voyage = voyage; sender = sender; recipient = recipient; date = date; rotation = rotation; tariff = tariff; containers = containers })

-- the bookings of a text
unfoldable pub bookings_of : List ℕ → Result Bookings BookingFault
bookings_of bytes = ok_or (document_of bytes) NotToml >>= bookings_in

-- a call gave what reading gives, unless memory ran out
abbrev pub Gives : {X : Type 0} → Result X BookingFault → Result X BookingFault → Type 0
Gives result read = MatchResult result (λ x. read ≡ Ok x) (λ e. e ≢ NoMemory → read ≡ Err e)
