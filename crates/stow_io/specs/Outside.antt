-- What is outside of a run.
use Rattle.std.specs.Prelude.{◌⊎◌, ℕ, List, Option}
use Rattle.stow_io.specs.Causes.{Rose}
use Rattle.stow_io.specs.Files.{Files}
use Rattle.stow_io.specs.declared.outside.Folder as folder
use Rattle.stow_io.specs.declared.outside.Sink as sink

-- the files by their names and the printed text, where they are told; and how often the folder and the sink failed
pub record Outside : Type 0 where
  pub files : Option Files
  pub text : Option (List ℕ)
  pub folder_faults : ℕ
  pub sink_faults : ℕ

abbrev pub outside : {F K : Type 0} → folder.Ghosts F → sink.Ghosts K → F → K → Outside
outside fs ks f k = record { files = fs.files f; text = ks.written k; folder_faults = fs.faults f; sink_faults = ks.faults k }

-- whether a count of faults rose
abbrev pub FolderRose : Outside → Outside → Type 0
FolderRose before now = Rose before.folder_faults now.folder_faults

abbrev pub SinkRose : Outside → Outside → Type 0
SinkRose before now = Rose before.sink_faults now.sink_faults

abbrev pub HasRisen : Outside → Outside → Type 0
HasRisen before now = FolderRose before now ⊎ SinkRose before now
