-- What a folder holds and what a sink has received. A folder or a sink may not tell: then there is no map and no text.
use Rattle.std.specs.Prelude.{◌≡◌, ◌⊎◌, ℕ, Bool, true, false, Option, Some, option_map, List, [], ◌++◌, take, unwrap_or, Result, Ok, Err}
use Rattle.std.specs.Map.{update}
use Rattle.std.specs.Str.{bytes_eq}
use Rattle.stow_io.specs.declared.outside.FolderNo.{FolderNo}
use Rattle.stow_io.specs.declared.outside.FolderNo.TheVariants.{Failed, NoMemory}

-- the bytes under each name, none where no file stands
abbrev pub Files : Type 0
Files = List ℕ → Option (List ℕ)

-- the bytes under a name, or no bytes where none stand there
abbrev pub bytes_at : Files → List ℕ → List ℕ
bytes_at files name = unwrap_or (files name) []

-- the map with these bytes under the name
abbrev pub with_file : List ℕ → List ℕ → Files → Files
with_file name bytes files = update bytes_eq files name (Some bytes)

-- the same, where the files are told
unfoldable pub put : List ℕ → List ℕ → Option Files → Option Files
put name bytes files = option_map (with_file name bytes) files

-- what was under the name is still there, or a prefix of the bytes is; all other names stay
abbrev pub PutsPart : List ℕ → List ℕ → Option Files → Option Files → Type 0
PutsPart name bytes before now = (now ≡ before) ⊎ ((j : ℕ) × (now ≡ put name (take j bytes) before))

-- after a write: the bytes where it is Ok; where it failed, what was there or a prefix of the bytes. All other names stay
abbrev pub Writes : List ℕ → List ℕ → Result (Unit {0}) FolderNo → Option Files → Option Files → Type 0
Writes name bytes (Ok _) before now = now ≡ put name bytes before
Writes name bytes (Err Failed) before now = PutsPart name bytes before now
Writes name bytes (Err NoMemory) before now = now ≡ before

-- the text with these bytes at its end, where it is told
unfoldable pub append : List ℕ → Option (List ℕ) → Option (List ℕ)
append bytes text = option_map (λ w. w ++ bytes) text

-- a prefix of the bytes at the end
abbrev pub AppendsPart : List ℕ → Option (List ℕ) → Option (List ℕ) → Type 0
AppendsPart bytes before now = (j : ℕ) × (now ≡ append (take j bytes) before)

-- after a put: the bytes at the end where it is Ok, else a prefix of them
abbrev pub Appends : List ℕ → Bool → Option (List ℕ) → Option (List ℕ) → Type 0
Appends bytes true before now = now ≡ append bytes before
Appends bytes false before now = AppendsPart bytes before now
