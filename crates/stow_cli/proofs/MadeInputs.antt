-- The inputs of `make` are accepted, and their program is within its limits.
use Rattle.std.proofs.Common.{◌≡◌, ℕ, false, true, List, length, length-append, refl, ap, arith}
use Rattle.std.specs.Prelude.{codes}
use Rattle.std.specs.Str.{bytes_eq}
use Rattle.std.proofs.lemmas.Bool.{false_from_ne_true}
use Rattle.std.proofs.lemmas.Slice.Eq.{bytes_eq-Decides}
use Rattle.stow_io.specs.Files.{put}
use Rattle.stow_io.specs.Writing.{with_files}
use Rattle.stow_gen.specs.Profile.{profile_text}
use Rattle.stow_gen.specs.Bookings.{bookings_text}
use Rattle.zero_one_model.specs.Building.{IsWithin}
use Rattle.stow_gen.specs.MadeShip.{made_ship}
use Rattle.stow_gen.specs.MadeBookings.{made_bookings}
use Rattle.stow_gen.proofs.ReadProfile.{profile_is_read}
use Rattle.stow_gen.proofs.ReadBookings.{made_is_read, made_rules}
use Rattle.stow_gen.proofs.Within.{rows_within, vars_within}
use Rattle.voyage_files.specs.Inputs.{AreInputs, IsContent}
use Rattle.voyage_files.proofs.Empty.{empty_settles}
use Rattle.stow_cli.specs.Made.{bookings_name, made_inputs, made_names, only_made, profile_name}
use Rattle.stow_cli.specs.Voyages.{voyage_of}

-- the two names differ, since one is longer
names_differ : (base : List ℕ) → bytes_eq (bookings_name base) (profile_name base) ≡ false
names_differ base =
    let profile = length-append base (codes ".profile.toml") in
    let bookings = length-append base (codes ".bookings.toml") in
    false_from_ne_true _ (λ e. let same = ap length ((bytes_eq-Decides (bookings_name base) (profile_name base)).0 e) in omega (arith, same, profile, bookings))

same_name : (name : List ℕ) → bytes_eq name name ≡ true
same_name name = (bytes_eq-Decides name name).1 refl

profile_lies : (number : ℕ) (base : List ℕ) → IsContent (only_made number base) (profile_name base) profile_text
unfolding with_files put
profile_lies number base = rw (names_differ base, same_name (profile_name base)) refl

bookings_lie : (number : ℕ) (base : List ℕ) → IsContent (only_made number base) (bookings_name base) (bookings_text number)
unfolding with_files put
bookings_lie number base = rw (same_name (bookings_name base)) refl

pub made_are_inputs : (number : ℕ) (base : List ℕ) → AreInputs (made_names base) (only_made number base) (made_inputs number)
made_are_inputs number base = record {
  accepted = record {
    profile = profile_text;
    bookings = bookings_text number;
    profile_is = profile_lies number base;
    bookings_is = bookings_lie number base;
    ship_is = profile_is_read;
    booked_is = made_is_read number;
  };
  comes_in = tt;
  settled = empty_settles made_ship (made_bookings number) (made_rules number);
}

pub made_is_within : (number : ℕ) → IsWithin (voyage_of (made_inputs number))
made_is_within number =
    let few = vars_within number in
    let rows = rows_within number in
    record { vars = omega (arith, few); rows = omega (arith, rows) }
