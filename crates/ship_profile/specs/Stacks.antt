-- The stacks of a profile (ISO 9711: even bays of 40 foot, the odd bay before and the odd bay behind each; even tiers).
use Rattle.std.specs.Prelude.{ℕ, ◌+◌, ◌-◌, ◌%◌, ◌==◌, Bool, true, ◌&&◌, ◌||◌, nat_le, nat_lt, codes, bytes_eq, slice_index, List, [], ◌∷◌, ◌++◌, length, map, find, Option, Some, None, Result, Ok, Err, if◌then◌else◌}
use Rattle.std.specs.List.{list_all, list_any}
use Rattle.toml.specs.Data.{Data, Items, Members}
use Rattle.toml_values.specs.declared.of_values.Unread.{Unread}
use Rattle.toml_values.specs.declared.of_values.Unread.TheVariants.{BadValue}
use Rattle.toml_values.specs.Values.{◌>>=◌, array_of, number_of, passing, text_of}
use Rattle.toml_values.specs.Arrays.{each_of}
use Rattle.stow_data.specs.declared.geometry.Stack.{Stack}
use Rattle.stow_data.specs.declared.geometry.Lengths.{Lengths}
use Rattle.stow_data.specs.declared.geometry.Lengths.TheVariants.{Forty, Twenty, Mixed, ForeOnly, AftOnly}
use Rattle.stow_data.specs.Ship.{sides}
use Rattle.ship_profile.specs.declared.faults.ProfileKey.TheVariants as key
use Rattle.ship_profile.specs.declared.faults.ProfileFault.{ProfileFault}
use Rattle.ship_profile.specs.declared.faults.ProfileFault.TheVariants.{GapInStack, DuplicateCell}
use Rattle.ship_profile.specs.Keys.{need, may, unless, entries, some_tables_of}

abbrev pub is_even : ℕ → Bool
is_even n = n % 2 == 0

-- an even bay number
abbrev pub bay_of : Data → Result ℕ Unread
bay_of d = number_of 2 998 d >>= passing is_even

-- ## Tiers

abbrev pub is_hold_tier : ℕ → Bool
is_hold_tier tier = nat_le 2 tier && nat_le tier 78

abbrev pub is_deck_tier : ℕ → Bool
is_deck_tier tier = nat_le 80 tier && nat_le tier 98

-- at least one tier, all even, and all in the hold (02 to 78) or all on deck (80 to 98)
abbrev pub are_tiers : List ℕ → Bool
are_tiers tiers = (nat_le 1 (length tiers) && list_all is_even tiers) && (list_all is_hold_tier tiers || list_all is_deck_tier tiers)

abbrev pub tiers_of : Data → Result (List ℕ) Unread
tiers_of d = array_of d >>= each_of (number_of 2 98) >>= passing are_tiers

-- tier numbers that rise by 2 each, from this one
unfoldable pub rises_from : ℕ → List ℕ → Bool
rises_from next [] = true
rises_from next (tier ∷ tiers) = (tier == next) && rises_from (next + 2) tiers

-- ## Lengths and plugs

abbrev pub lengths_named : List ℕ → Result Lengths Unread
lengths_named s =
    if bytes_eq s (codes "40") then Ok Forty else
    (if bytes_eq s (codes "20") then Ok Twenty else
    (if bytes_eq s (codes "20/40") then Ok Mixed else
    (if bytes_eq s (codes "fore") then Ok ForeOnly else
    (if bytes_eq s (codes "aft") then Ok AftOnly else Err BadValue))))

abbrev pub lengths_of : Data → Result Lengths Unread
lengths_of d = text_of d >>= lengths_named

-- a number is one of these
abbrev pub is_among : List ℕ → ℕ → Bool
is_among ns n = list_any (λ m. m == n) ns

-- the number of one of these tiers
abbrev pub plug_of : List ℕ → Data → Result ℕ Unread
plug_of tiers d = number_of 2 98 d >>= passing (is_among tiers)

abbrev pub plugs_of : List ℕ → Data → Result (List ℕ) Unread
plugs_of tiers d = array_of d >>= each_of (plug_of tiers)

-- ## Entries

-- the tiers of an entry
unfoldable pub column_of : ℕ → Members → Result (List ℕ) ProfileFault
column_of index entry = do
  tiers ← need tiers_of key.Tiers index entry
  rising ← unless (rises_from (slice_index tiers 0) tiers) (GapInStack index)
  Ok tiers

-- the stack of an entry
unfoldable pub stack_of : ℕ → Members → Result Stack ProfileFault
stack_of index entry = do
  bay ← need bay_of key.Bay index entry
  row ← need (number_of 0 99) key.Row index entry
  tiers ← column_of index entry
  lengths ← need lengths_of key.Lengths index entry
  limit ← need (number_of 1 1000000) key.LimitKg index entry
  plugs ← may (plugs_of tiers) [] key.Plugs index entry
  Ok (record { bay = bay; row = row; lowest = slice_index tiers 0; tiers = length tiers; lengths = lengths; limit_kg = limit; plugs = map (is_among plugs) tiers })

-- the stacks of the entries
abbrev pub stacks_of : Items → Result (List Stack) ProfileFault
stacks_of ds = entries key.Stack (λ index _ entry. stack_of index entry) ds

-- the stacks of a profile
abbrev pub stacks_in : Members → Result (List Stack) ProfileFault
stacks_in top = need some_tables_of key.Stack 0 top >>= stacks_of

-- ## Cells that two stacks would share

abbrev pub is_in_hold : Stack → Bool
is_in_hold s = nat_lt s.lowest 80

abbrev pub is_on_deck : Stack → Bool
is_on_deck s = nat_le 80 s.lowest

-- both in the hold or both on deck
abbrev pub same_part : Stack → Stack → Bool
same_part s t = (is_in_hold s && is_in_hold t) || (is_on_deck s && is_on_deck t)

-- the odd bays of a stack's half-cells, the lower one first: fore is bay - 1, aft is bay + 1
abbrev pub odd_bays : Stack → List ℕ
odd_bays s = map (λ aft. if aft then s.bay + 1 else s.bay - 1) (sides s.lengths)

-- a stack has a cell in this odd bay, in the row of another stack and in the same part of the ship
abbrev pub has_cell_of : Stack → ℕ → Stack → Bool
has_cell_of s odd t = ((t.row == s.row) && same_part t s) && is_among (odd_bays t) odd

-- the lowest odd bay in which a stack has a cell of one of these
abbrev pub shared_bay : List Stack → Stack → Option ℕ
shared_bay earlier s = find (λ odd. list_any (has_cell_of s odd) earlier) (odd_bays s)

abbrev pub refused_at : Stack → Option ℕ → Result (Unit {0}) ProfileFault
refused_at s None = Ok tt
refused_at s (Some odd) = Err (DuplicateCell odd s.row s.lowest)

-- the first stack that shares a cell with an earlier one is refused
unfoldable pub apart_after : List Stack → List Stack → Result (Unit {0}) ProfileFault
apart_after earlier [] = Ok tt
apart_after earlier (s ∷ ss) = refused_at s (shared_bay earlier s) >>= λ _. apart_after (earlier ++ s ∷ []) ss
