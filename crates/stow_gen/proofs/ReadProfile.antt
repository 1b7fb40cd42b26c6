-- The profile of the made ship is read.
use Rattle.std.proofs.Common.{◌≡◌, refl, true, ap, ◌∙◌, Ok}
use Rattle.std.specs.Prelude.{ok_or}
use Rattle.std.specs.Str.{is_utf8}
use Rattle.toml.specs.Parse.{parse_document}
use Rattle.toml.proofs.OnLiterals.{toml_on_literals}
use Rattle.stow_gen.specs.MadeShip.{made_ship}
use Rattle.stow_gen.proofs.SpelledProfile.{spelled_profile, profile_is_spelled}
use Rattle.stow_gen.proofs.LowBytes.{low_utf8}
use Rattle.stow_gen.specs.Profile.{profile_text}
use Rattle.stow_data.specs.Ship.{places}
use Rattle.toml_values.specs.Values.{◌>>=◌}
use Rattle.toml_values.specs.Arrays.{each_after}
use Rattle.ship_profile.specs.declared.faults.ProfileFault.TheVariants.{NotToml}
use Rattle.ship_profile.specs.Stacks.{rises_from, column_of, stack_of, apart_after}
use Rattle.ship_profile.specs.Covers.{all_named, cover_of}
use Rattle.ship_profile.specs.Separations.{classes_and_level, separation_of}
use Rattle.ship_profile.specs.ShipText.{unless_large, ship_of, profile_of}

-- the text with its numerals, by computing
spelled_is_read : (ok_or (parse_document spelled_profile) NotToml >>= ship_of) ≡ Ok made_ship
unfolding toml_on_literals places each_after rises_from column_of stack_of apart_after all_named cover_of classes_and_level separation_of unless_large ship_of
spelled_is_read = refl

pub profile_is_read : profile_of profile_text ≡ Ok made_ship
profile_is_read =
    let utf8 : is_utf8 spelled_profile ≡ true = low_utf8 spelled_profile refl in
    ap profile_of profile_is_spelled ∙ rw utf8 spelled_is_read
