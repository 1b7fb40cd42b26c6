-- The items of an array.
use Rattle.std.specs.Prelude.{Bool, List, Ok, Result, [], is_ok, suc, true, ℕ, ◌&&◌, ◌++◌, ◌∷◌}
use Rattle.toml.specs.Data.{Data, Items, no_items, item}
use Rattle.toml_values.specs.declared.of_values.Unread.{Unread}
use Rattle.toml_values.specs.Values.{◌>>=◌, array_of, passing, table_of}

abbrev pub item_count : Items → ℕ
item_count no_items = 0
item_count (item d ds) = suc (item_count ds)

abbrev pub all_tables : Items → Bool
all_tables no_items = true
all_tables (item d ds) = is_ok (table_of d) && all_tables ds

-- an array of tables
abbrev pub tables_of : Data → Result Items Unread
tables_of d = array_of d >>= passing all_tables

-- the items in order, each read with what those before it gave: all that they gave, or the first fault
unfoldable pub each_after : {X E : Type 0} → (List X → Data → Result X E) → List X → Items → Result (List X) E
each_after read before no_items = Ok before
each_after read before (item d ds) = read before d >>= λ x. each_after read (before ++ x ∷ []) ds

-- the items in order, each read by itself
abbrev pub each_of : {X E : Type 0} → (Data → Result X E) → Items → Result (List X) E
each_of read ds = each_after (λ _. read) [] ds
