-- The bookings of the made ship of a number are read.
use Rattle.std.proofs.Common.{◌≡◌, ℕ, zero, suc, ◌+◌, ◌/◌, ◌<◌, ◌≤◌, true, false, List, [], ◌∷◌, ◌++◌, get_or, refl, sym, ap, ◌∙◌, arith, Ok, append_assoc, append-nil}
use Rattle.std.specs.Str.{bytes_eq}
use Rattle.std.proofs.lemmas.Bool.{false_from_ne_true}
use Rattle.std.proofs.lemmas.Slice.Eq.{bytes_eq-Decides}
use Rattle.toml.specs.Data.{Items}
use Rattle.toml_values.specs.Values.{◌>>=◌}
use Rattle.toml_values.specs.Arrays.{all_tables, each_after, item_count}
use Rattle.stow_data.specs.Digits.{digit}
use Rattle.stow_gen.specs.Draws.{after_lot, lot}
use Rattle.stow_gen.specs.Bookings.{bookings_text}
use Rattle.bookings.specs.declared.shipment.Booking.{Booking}
use Rattle.bookings.specs.Reading.{booking_at, bookings_in, bookings_of, containers_in, rotation_in, tariff_in, has_id}
use Rattle.bookings.specs.Rules.{IsBookings}
use Rattle.bookings.proofs.RuleLaws.{bookings_are}
use Rattle.stow_gen.specs.MadeBookings.{booking_of_lot, bookings_from, bookings_with, id_of, made_bookings}
use Rattle.stow_gen.proofs.LineTables.{items_from, top}
use Rattle.stow_gen.proofs.DrawnRanges.{lot_in_range}
use Rattle.stow_gen.proofs.ReadEntry.{entry_read}
use Rattle.stow_gen.proofs.ParsedBookings.{parsed}
use Rattle.stow_gen.proofs.LowBytes.{bookings_utf8}

same_number : (j k : ℕ) → j < 1000 → k < 1000 → id_of j ≡ id_of k → j ≡ k
same_number j k a b e =
    let ones : digit j ≡ digit k = ap (λ s. get_or s 10 0) e in
    let tens : digit (j / 10) ≡ digit (k / 10) = ap (λ s. get_or s 9 0) e in
    let hundreds : digit (j / 100) ≡ digit (k / 100) = ap (λ s. get_or s 8 0) e in
    omega (arith, ones, tens, hundreds)

-- a booking whose id is that of a number below k
record Numbered (k : ℕ) (b : Booking) : Type 0 where
  number : ℕ
  low : number < k
  is : b.id ≡ id_of number

-- the bookings have such ids
abbrev Before : ℕ → List Booking → Type 0
Before k [] = Unit {0}
Before k (b ∷ bs) = Numbered k b × Before k bs

one_more : (k : ℕ) (bs : List Booking) (b : Booking) → Before k bs → b.id ≡ id_of k → Before (k + 1) (bs ++ b ∷ [])
one_more k [] b h e = (record { number = k; low = omega arith; is = e }, tt)
one_more k (c ∷ cs) b h e = let n = h.0 in (record { number = n.number; low = omega (arith, n.low); is = n.is }, one_more k cs b h.1 e)

no_id : (k : ℕ) (bs : List Booking) → k < 1000 → Before k bs → has_id (id_of k) bs ≡ false
no_id k [] small h = refl
no_id k (b ∷ bs) small h =
    let n = h.0 in
    let other : bytes_eq b.id (id_of k) ≡ false = false_from_ne_true _ (λ e. let same = same_number n.number k (omega (arith, n.low)) small (sym n.is ∙ (bytes_eq-Decides b.id (id_of k)).0 e) in omega (arith, same, n.low)) in
    rw (other, no_id k bs small h.1) refl

-- the entries are read one after the other
all_read : (left k state : ℕ) (before : List Booking) → k + left ≤ 1000 → Before k before → each_after (booking_at 6) before (items_from left k state) ≡ Ok (before ++ bookings_from left k state)
unfolding each_after booking_at
all_read zero k state before small h = ap (λ bs. Ok bs) (sym (append-nil before))
all_read (suc left) k state before small h =
    let l = lot state in
    let read = entry_read k l.load l.dest l.kg l.cooled before (lot_in_range state) (no_id k before (omega arith) h) in
    ap (λ r. r >>= λ x. each_after (booking_at 6) (before ++ x ∷ []) (items_from left (k + 1) (after_lot state))) read
    ∙ all_read left (k + 1) (after_lot state) (before ++ booking_of_lot k (lot state) ∷ []) (omega arith) (one_more k before (booking_of_lot k (lot state)) h refl)
    ∙ ap (λ bs. Ok bs) (append_assoc before (booking_of_lot k (lot state) ∷ []) (bookings_from left (k + 1) (after_lot state)))

tables : (left k state : ℕ) → all_tables (items_from left k state) ≡ true
tables zero k state = refl
tables (suc left) k state = tables left (k + 1) (after_lot state)

count : (left k state : ℕ) → item_count (items_from left k state) ≡ left
count zero k state = refl
count (suc left) k state = ap suc (count left (k + 1) (after_lot state))

-- over any entries that are 120 tables
top_read : (entries : Items) (bookings : List Booking) → all_tables entries ≡ true → item_count entries ≡ 120 → each_after (booking_at 6) [] entries ≡ Ok bookings
    → bookings_in (top entries) ≡ Ok (bookings_with bookings)
unfolding bookings_in rotation_in tariff_in containers_in each_after
top_read entries bookings a b c = rw (a, b, c) refl

pub made_is_read : (n : ℕ) → bookings_of (bookings_text n) ≡ Ok (made_bookings n)
unfolding bookings_of
made_is_read n =
    rw (bookings_utf8 120 1 n, parsed 119 1 n) (top_read (items_from 120 1 n) (bookings_from 120 1 n) (tables 120 1 n) (count 120 1 n) (all_read 120 1 n [] (omega arith) tt))

pub made_rules : (n : ℕ) → IsBookings (made_bookings n)
made_rules n = bookings_are (bookings_text n) (made_bookings n) (made_is_read n)
