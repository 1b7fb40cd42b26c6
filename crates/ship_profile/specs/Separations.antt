-- The separations of a profile: pairs of classes of dangerous goods, and how near they must not stand.
use Rattle.std.specs.Prelude.{ℕ, Bool, ◌&&◌, ◌||◌, bytes_eq, List, Result, Ok, Err, if◌then◌else◌}
use Rattle.std.specs.List.{list_any}
use Rattle.toml.specs.Data.{Items, no_items, Members}
use Rattle.toml_values.specs.declared.of_values.Unread.{Unread}
use Rattle.toml_values.specs.Values.{◌>>=◌, at_key, number_of, text_that}
use Rattle.toml_values.specs.Arrays.{tables_of}
use Rattle.stow_data.specs.declared.geometry.Separation.{Separation}
use Rattle.stow_data.specs.Profile.{is_class}
use Rattle.ship_profile.specs.declared.faults.ProfileKey.TheVariants as key
use Rattle.ship_profile.specs.declared.faults.ProfileFault.{ProfileFault}
use Rattle.ship_profile.specs.declared.faults.ProfileFault.TheVariants.{BadSeparation}
use Rattle.ship_profile.specs.Keys.{spelling, may, entries}

-- the two classes and the level of an entry
unfoldable pub classes_and_level : Members → Result Separation Unread
classes_and_level entry = do
  a ← at_key (text_that is_class) (spelling key.A) entry
  b ← at_key (text_that is_class) (spelling key.B) entry
  level ← at_key (number_of 1 3) (spelling key.Level) entry
  Ok (record { a = a; b = b; level = level })

-- two separations have the same two classes, in either order
abbrev pub is_same_pair : Separation → Separation → Bool
is_same_pair d e = (bytes_eq d.a e.a && bytes_eq d.b e.b) || (bytes_eq d.a e.b && bytes_eq d.b e.a)

abbrev pub unless_again : ℕ → List Separation → Separation → Result Separation ProfileFault
unless_again index earlier e = if list_any (λ d. is_same_pair d e) earlier then Err (BadSeparation index) else Ok e

-- any fault of an entry is a bad separation
abbrev pub unless_unread : ℕ → Result Separation Unread → Result Separation ProfileFault
unless_unread index (Ok e) = Ok e
unless_unread index (Err _) = Err (BadSeparation index)

-- the separation of an entry, after earlier ones
unfoldable pub separation_of : ℕ → List Separation → Members → Result Separation ProfileFault
separation_of index earlier entry = unless_unread index (classes_and_level entry) >>= unless_again index earlier

-- the separations of the entries
abbrev pub separations_of : Items → Result (List Separation) ProfileFault
separations_of ds = entries key.Separate separation_of ds

-- the separations of a profile
abbrev pub separations_in : Members → Result (List Separation) ProfileFault
separations_in top = may tables_of no_items key.Separate 0 top >>= separations_of
