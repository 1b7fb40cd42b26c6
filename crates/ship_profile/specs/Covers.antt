-- The hatch covers of a profile.
use Rattle.std.specs.Prelude.{ℕ, ◌==◌, Bool, false, ◌&&◌, ℤ, pos, List, [], ◌∷◌, ◌++◌, map, filter, find, flat_map, Option, Some, None, Result, Ok, Err}
use Rattle.std.specs.List.{enumerate_from}
use Rattle.toml.specs.Data.{Data, integer, Items, no_items, item, Members}
use Rattle.toml_values.specs.declared.of_values.Unread.{Unread}
use Rattle.toml_values.specs.declared.of_values.Unread.TheVariants.{BadValue}
use Rattle.toml_values.specs.Values.{◌>>=◌, array_of}
use Rattle.toml_values.specs.Arrays.{each_of, tables_of}
use Rattle.stow_data.specs.declared.geometry.Stack.{Stack}
use Rattle.stow_data.specs.declared.geometry.Cover.{Cover}
use Rattle.ship_profile.specs.declared.faults.ProfileKey.TheVariants as key
use Rattle.ship_profile.specs.declared.faults.ProfileFault.{ProfileFault}
use Rattle.ship_profile.specs.declared.faults.ProfileFault.TheVariants.{CoverUnknownStack, CoverTwice}
use Rattle.ship_profile.specs.declared.covers.Part.{Part}
use Rattle.ship_profile.specs.declared.covers.Part.TheVariants.{Hold, Deck}
use Rattle.ship_profile.specs.Keys.{need, may, entries}
use Rattle.ship_profile.specs.Stacks.{is_among, is_in_hold, is_on_deck}

-- a whole number
abbrev pub integer_of : Data → Result ℤ Unread
integer_of (integer z) = Ok z
integer_of _ = Err BadValue

-- a pair of whole numbers: bay and row
abbrev pub pair_in : Items → Result (ℤ × ℤ) Unread
pair_in (item bay (item row no_items)) = integer_of bay >>= λ b. integer_of row >>= λ r. Ok (b, r)
pair_in _ = Err BadValue

abbrev pub pair_of : Data → Result (ℤ × ℤ) Unread
pair_of d = array_of d >>= pair_in

abbrev pub pairs_of : Data → Result (List (ℤ × ℤ)) Unread
pairs_of d = array_of d >>= each_of pair_of

abbrev pub is_in : Part → Stack → Bool
is_in Hold s = is_in_hold s
is_in Deck s = is_on_deck s

-- the stack stands in this bay and row
abbrev pub stands_at : ℤ → ℤ → Stack → Bool
stands_at (pos bay) (pos row) s = (s.bay == bay) && (s.row == row)
stands_at _ _ s = false

-- the numbers of the stacks in one part of the ship that stand at a bay and row, counted from some number
abbrev pub stacks_from : ℕ → Part → List Stack → ℤ × ℤ → List ℕ
stacks_from number part stacks pair = map (λ s. s.0) (filter (λ s. is_in part s.1 && stands_at pair.0 pair.1 s.1) (enumerate_from number stacks))

abbrev pub stacks_at : Part → List Stack → ℤ × ℤ → List ℕ
stacks_at part stacks pair = stacks_from 0 part stacks pair

-- these stacks, where none of them was named before
abbrev pub unless_again : List ℕ → Option ℕ → Result (List ℕ) ProfileFault
unless_again these None = Ok these
unless_again these (Some again) = Err (CoverTwice again)

-- the stacks that a pair names: at least one, and none that was named before
abbrev pub newly_named : ℕ → List ℕ → List ℕ → Result (List ℕ) ProfileFault
newly_named index named [] = Err (CoverUnknownStack index)
newly_named index named (s ∷ ss) = unless_again (s ∷ ss) (find (is_among named) (s ∷ ss))

-- the stacks that the pairs name, one pair after the other, after the stacks found so far and those that covers named before
unfoldable pub all_named : Part → List Stack → ℕ → List ℕ → List ℕ → List (ℤ × ℤ) → Result (List ℕ) ProfileFault
all_named part stacks index named found [] = Ok found
all_named part stacks index named found (pair ∷ pairs) = newly_named index (named ++ found) (stacks_at part stacks pair) >>= λ these. all_named part stacks index named (found ++ these) pairs

-- the cover of an entry: under it stacks in the hold, on it stacks on deck
unfoldable pub cover_of : List Stack → ℕ → List ℕ → Members → Result Cover ProfileFault
cover_of stacks index named entry = do
  under_pairs ← need pairs_of key.Under index entry
  under ← all_named Hold stacks index named [] under_pairs
  on_pairs ← need pairs_of key.On index entry
  on ← all_named Deck stacks index (named ++ under) [] on_pairs
  Ok (record { under = under; on = on })

-- the stacks that covers name, one cover after the other
abbrev pub named_by : List Cover → List ℕ
named_by covers = flat_map (λ c. c.under ++ c.on) covers

-- the covers of the entries, each after those that stand before it
abbrev pub covers_of : List Stack → Items → Result (List Cover) ProfileFault
covers_of stacks ds = entries key.Cover (λ index earlier entry. cover_of stacks index (named_by earlier) entry) ds

-- the covers of a profile
abbrev pub covers_in : List Stack → Members → Result (List Cover) ProfileFault
covers_in stacks top = may tables_of no_items key.Cover 0 top >>= covers_of stacks
