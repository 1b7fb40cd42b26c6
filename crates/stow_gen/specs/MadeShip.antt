-- The made ship: four bays of four stacks in the hold and four on deck, each of three tiers, and a cover for each bay.
use Rattle.std.specs.Prelude.{ℕ, ◌+◌, Bool, true, false, codes, List, [], ◌∷◌, ◌++◌, map, flat_map}
use Rattle.stow_data.specs.declared.geometry.Cover.{Cover}
use Rattle.stow_data.specs.declared.geometry.Lengths.TheVariants.{Forty}
use Rattle.stow_data.specs.declared.geometry.Stack.{Stack}
use Rattle.stow_data.specs.Ship.{Ship}
use Rattle.stow_gen.specs.Profile.{bays, rows}

-- a stack of three tiers for 40 foot containers, of which the lowest has a plug or not
abbrev pub stack_at : ℕ → Bool → ℕ → ℕ → Stack
stack_at lowest plug bay row = record {
  bay = bay;
  row = row;
  lowest = lowest;
  tiers = 3;
  lengths = Forty;
  limit_kg = 90000;
  plugs = plug ∷ false ∷ false ∷ [];
}

-- the stacks of all bays that begin at this tier
abbrev pub stacks_from : ℕ → Bool → List Stack
stacks_from lowest plug = flat_map (λ bay. map (stack_at lowest plug bay) rows) bays

-- the cover of a bay, by its first stack in the hold: four stacks under it, and the four of the same rows on it
abbrev pub cover_of_bay : ℕ → Cover
cover_of_bay first = record {
  under = first ∷ (first + 1) ∷ (first + 2) ∷ (first + 3) ∷ [];
  on = (first + 16) ∷ (first + 17) ∷ (first + 18) ∷ (first + 19) ∷ [];
}

-- the stacks in the hold, and then those on deck, which have the plugs
abbrev pub made_ship : Ship
made_ship = record {
  name = codes "FEEDER";
  weight_step = 5000;
  stacks = stacks_from 2 false ++ stacks_from 82 true;
  covers = map cover_of_bay (0 ∷ 4 ∷ 8 ∷ 12 ∷ []);
  separations = [];
}
