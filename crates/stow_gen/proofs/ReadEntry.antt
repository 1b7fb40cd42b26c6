-- The table of a container is read.
use Rattle.std.proofs.Common.{◌≡◌, ℕ, ◌/◌, ◌<◌, ◌≤◌, Bool, true, false, ◌&&◌, List, refl, arith, nat_lt, nat_le, Ok}
use Rattle.std.proofs.lemmas.Bool.Decides.{nat_tests}
use Rattle.toml.specs.Tables.{close}
use Rattle.toml_values.specs.Values.{is_code, is_code_byte}
use Rattle.stow_data.specs.Digits.{digit}
use Rattle.bookings.specs.declared.shipment.Booking.{Booking}
use Rattle.bookings.specs.Reading.{booking_of, has_id}
use Rattle.stow_gen.specs.MadeBookings.{booking_with, id_of}
use Rattle.stow_gen.proofs.LineTables.{entry_nodes}
use Rattle.stow_gen.proofs.DrawnRanges.{InRange}

digit_code : (n : ℕ) → is_code_byte (digit n) ≡ true
digit_code n = grind (arith, nat_tests)

id_code : (k : ℕ) → is_code 17 (id_of k) ≡ true
id_code k = rw (digit_code (k / 1000000), digit_code (k / 100000), digit_code (k / 10000), digit_code (k / 1000), digit_code (k / 100), digit_code (k / 10), digit_code k) refl

within : (low high n : ℕ) → low ≤ n → n ≤ high → (nat_le low n && nat_le n high) ≡ true
within low high n a b = grind (arith, nat_tests)

earlier : (a b : ℕ) → a < b → nat_lt a b ≡ true
earlier a b h = grind (arith, nat_tests)

pub entry_read : (k load dest kg : ℕ) (cooled : Bool) (before : List Booking) → InRange load dest kg → has_id (id_of k) before ≡ false
    → booking_of 6 before (close (entry_nodes k load dest kg cooled)) ≡ Ok (booking_with k load dest kg cooled)
unfolding booking_of
entry_read k load dest kg true before r once = rw (id_code k, within 1 6 load r.load_from (omega (arith, r.load_to)), within 1 6 dest (omega (arith, r.later)) r.dest_to, within 0 99999 kg (omega arith) (omega (arith, r.kg_to)), earlier load dest r.later, once) refl
entry_read k load dest kg false before r once = rw (id_code k, within 1 6 load r.load_from (omega (arith, r.load_to)), within 1 6 dest (omega (arith, r.later)) r.dest_to, within 0 99999 kg (omega arith) (omega (arith, r.kg_to)), earlier load dest r.later, once) refl
