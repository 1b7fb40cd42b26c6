-- What stands under a key of a profile: a value, or the first fault.
use Rattle.std.specs.Prelude.{◌≡◌, ◌≢◌, Bool, codes, ℕ, ◌+◌, List, [], length, Result, Ok, Err, if◌then◌else◌}
use Rattle.toml.specs.Data.{Data, Items, Members}
use Rattle.toml.specs.Text.{has_items}
use Rattle.toml_values.specs.declared.of_values.Unread.{Unread}
use Rattle.toml_values.specs.declared.of_values.Unread.TheVariants as unread
use Rattle.toml_values.specs.Values.{◌>>=◌, at_key, or_default, passing, table_of}
use Rattle.toml_values.specs.Arrays.{each_after, tables_of}
use Rattle.ship_profile.specs.declared.faults.ProfileKey.{ProfileKey}
use Rattle.ship_profile.specs.declared.faults.ProfileKey.TheVariants as key
use Rattle.ship_profile.specs.declared.faults.ProfileFault.{ProfileFault}
use Rattle.ship_profile.specs.declared.faults.ProfileFault.TheVariants.{Missing, BadValue, NoMemory}

-- how a key is spelled in the file
abbrev pub spelling : ProfileKey → List ℕ
spelling key.Name = codes "name"
spelling key.WeightStep = codes "weight_step"
spelling key.Stack = codes "stack"
spelling key.Bay = codes "bay"
spelling key.Row = codes "row"
spelling key.Tiers = codes "tiers"
spelling key.Lengths = codes "lengths"
spelling key.LimitKg = codes "limit_kg"
spelling key.Plugs = codes "plugs"
spelling key.Cover = codes "cover"
spelling key.Under = codes "under"
spelling key.On = codes "on"
spelling key.Separate = codes "separate"
spelling key.A = codes "a"
spelling key.B = codes "b"
spelling key.Level = codes "level"

-- what a call returned, seen by view, is what reading gives, unless memory ran out
abbrev pub Gives : {X Y : Type 0} → (X → Y) → Result X ProfileFault → Result Y ProfileFault → Type 0
Gives view (Ok x) read = read ≡ Ok (view x)
Gives view (Err e) read = e ≢ NoMemory → read ≡ Err e

-- the fault where the test doesn't hold
abbrev pub unless : Bool → ProfileFault → Result (Unit {0}) ProfileFault
unless b e = if b then Ok tt else Err e

-- the fault of a key, where there is no value
abbrev pub keyed : {X : Type 0} → ProfileKey → ℕ → Result X Unread → Result X ProfileFault
keyed key index (Ok x) = Ok x
keyed key index (Err unread.Missing) = Err (Missing key index)
keyed key index (Err unread.BadValue) = Err (BadValue key index)

-- the value of a key that may not be missing
abbrev pub need : {X : Type 0} → (Data → Result X Unread) → ProfileKey → ℕ → Members → Result X ProfileFault
need value_of key index entry = keyed key index (at_key value_of (spelling key) entry)

-- the value of a key, or a default where it is missing
abbrev pub may : {X : Type 0} → (Data → Result X Unread) → X → ProfileKey → ℕ → Members → Result X ProfileFault
may value_of default key index entry = keyed key index (or_default default (at_key value_of (spelling key) entry))

-- an array of at least one table
abbrev pub some_tables_of : Data → Result Items Unread
some_tables_of d = tables_of d >>= passing has_items

-- an entry of an array of tables
abbrev pub entry_at : {X : Type 0} → ProfileKey → (Members → Result X ProfileFault) → Data → Result X ProfileFault
entry_at key entry_of d = keyed key 0 (table_of d) >>= entry_of

-- an entry, read by its index, from 1, and the entries before it
abbrev pub entry_after : {X : Type 0} → ProfileKey → (ℕ → List X → Members → Result X ProfileFault) → List X → Data → Result X ProfileFault
entry_after key entry_of before d = entry_at key (entry_of (length before + 1) before) d

-- the entries of an array of tables
abbrev pub entries : {X : Type 0} → ProfileKey → (ℕ → List X → Members → Result X ProfileFault) → Items → Result (List X) ProfileFault
entries key entry_of ds = each_after (entry_after key entry_of) [] ds
