-- The ship of a profile, or the first fault of the text.
use Rattle.std.specs.Prelude.{ℕ, nat_le, List, [], length, ok_or, Result, Ok, Err, if◌then◌else◌}
use Rattle.toml.specs.Data.{Members}
use Rattle.toml_values.specs.Values.{◌>>=◌, document_of, number_of, text_that}
use Rattle.stow_data.specs.declared.limits.Limit.TheVariants.{Places}
use Rattle.stow_data.specs.Ship.{Ship, places}
use Rattle.stow_data.specs.Profile.{is_name}
use Rattle.ship_profile.specs.declared.faults.ProfileKey.TheVariants as key
use Rattle.ship_profile.specs.declared.faults.ProfileFault.{ProfileFault}
use Rattle.ship_profile.specs.declared.faults.ProfileFault.TheVariants.{NotToml, TooLarge}
use Rattle.ship_profile.specs.Keys.{need, may}
use Rattle.ship_profile.specs.Stacks.{stacks_in, apart_after}
use Rattle.ship_profile.specs.Covers.{covers_in}
use Rattle.ship_profile.specs.Separations.{separations_in}

-- the ship, where it has at most 3,000 places
unfoldable pub unless_large : Ship → Result Ship ProfileFault
unless_large ship = if nat_le (length (places ship)) 3000 then Ok ship else Err (TooLarge Places (length (places ship)))

-- the ship of a document
unfoldable pub ship_of : Members → Result Ship ProfileFault
ship_of top = do
  name ← need (text_that is_name) key.Name 0 top
  step ← may (number_of 1 10000) 1000 key.WeightStep 0 top
  stacks ← stacks_in top
  apart ← apart_after [] stacks
  covers ← covers_in stacks top
  separations ← separations_in top
  unless_large (record { name = name; weight_step = step; stacks = stacks; covers = covers; separations = separations })

-- the ship of a text
abbrev pub profile_of : List ℕ → Result Ship ProfileFault
profile_of bytes = ok_or (document_of bytes) NotToml >>= ship_of
