-- Files written one after the other.
use Rattle.std.proofs.Common.{◌≡◌, ℕ, ◌+◌, ◌<◌, ◌≤◌, List, [], ◌∷◌, ◌++◌, length, get_or, take, Option, refl}
use Rattle.std.proofs.lemmas.List.{take_more, take_all}
use Rattle.stow_io.specs.Files.{Files, put}
use Rattle.stow_io.specs.declared.files.NamedFile.{NamedFile}
use Rattle.stow_io.specs.Writing.{with_files}

with_files-last : (fs : List NamedFile) (f : NamedFile) (m : Option Files) → with_files (fs ++ f ∷ []) m ≡ put f.name f.bytes (with_files fs m)
unfolding with_files
with_files-last [] f m = refl
with_files-last (g ∷ gs) f m = with_files-last gs f (put g.name g.bytes m)

pub with_none : (m : Option Files) → with_files [] m ≡ m
unfolding with_files
with_none m = refl

pub with_more : (fs : List NamedFile) (i : ℕ) (f : NamedFile) (m : Option Files) → i < length fs → f ≡ get_or fs i f → with_files (take (i + 1) fs) m ≡ put f.name f.bytes (with_files (take i fs) m)
with_more fs i f m lt is = rw (take_more fs i f lt, ← is) (with_files-last (take i fs) f m)

pub with_all : (fs : List NamedFile) (i : ℕ) (m : Option Files) → length fs ≤ i → with_files (take i fs) m ≡ with_files fs m
with_all fs i m le = rw (take_all i fs le)

pub ruleset steps = (with_none, with_more, with_all)
