-- Files written one after the other.
use Rattle.std.specs.Prelude.{◌≡◌, ℕ, ◌<◌, Option, List, [], ◌∷◌, length, take, slice_get, Some, Result, Ok, Err}
use Rattle.stow_io.specs.Files.{Files, PutsPart, put}
use Rattle.stow_io.specs.declared.outside.FolderNo.{FolderNo}
use Rattle.stow_io.specs.declared.outside.FolderNo.TheVariants.{Failed, NoMemory}
use Rattle.stow_io.specs.declared.files.NamedFile.{NamedFile}
use Rattle.stow_io.specs.declared.writing.WriteStop.{WriteStop}

-- the files after these were written in their order
unfoldable pub with_files : List NamedFile → Option Files → Option Files
with_files [] files = files
with_files (f ∷ fs) files = with_files fs (put f.name f.bytes files)

-- The first n are written whole. Under the next name what was there, or after a failed write a prefix of its bytes. All other names are as before
abbrev pub WrittenUpTo : List NamedFile → ℕ → FolderNo → Option Files → Option Files → Type 0
WrittenUpTo list n Failed before now = (next : NamedFile) × (slice_get list n ≡ Some next) × PutsPart next.name next.bytes (with_files (take n list) before) now
WrittenUpTo list n NoMemory before now = now ≡ with_files (take n list) before

abbrev pub Written : List NamedFile → Result (Unit {0}) WriteStop → Option Files → Option Files → Type 0
Written list (Ok _) before now = now ≡ with_files list before
Written list (Err stop) before now = (stop.index < length list) × WrittenUpTo list stop.index stop.no before now

-- the count of faults stays where no write failed
abbrev pub IsWriteQuiet : Result (Unit {0}) WriteStop → ℕ → ℕ → Type 0
IsWriteQuiet (Ok _) before now = now ≡ before
IsWriteQuiet (Err stop) before now = (stop.no ≡ Failed → ⊥) → now ≡ before
