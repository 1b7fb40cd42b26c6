-- How the drawing of a crane list ends, and what it leaves.
use Rattle.std.specs.Prelude.{◌≡◌, ◌⊎◌, ℕ, Bool, true, false, ◌||◌, ◌&&◌, ◌==◌, nat_eq, codes, length, slice_get, List, [], ◌∷◌, ◌++◌, Option, Some, None, if◌then◌else◌}
use Rattle.std.specs.Fmt.{decimal}
use Rattle.std.specs.List.{starts_with}
use Rattle.baplie.specs.Segments.{same_text, is_empty_text}
use Rattle.stow_io.specs.Files.{Files}
use Rattle.stow_io.specs.Ends.{Prints, fault_read}
use Rattle.stow_io.specs.Outside.{Outside, FolderRose}
use Rattle.stow_io.specs.declared.files.NamedFile.{NamedFile}
use Rattle.stow_io.specs.declared.files.Work.{Work}
use Rattle.stow_report.specs.declared.crane_lists.CraneReport.{CraneReport}
use Rattle.picture_files.specs.declared.status.Status.{Status}
use Rattle.picture_files.specs.declared.status.Status.TheVariants as status
use Rattle.picture_files.specs.Asked.{is_name, picture_name}
use Rattle.picture_files.specs.Ends.{Completes, refused_page}
use Rattle.picture_files.specs.Reading.{IsContent}
use Rattle.picture_files.specs.Work.{line_of}
use Rattle.crane_pictures.specs.declared.top.Stop.{Stop}
use Rattle.crane_pictures.specs.declared.top.Stop.TheVariants as stop
use Rattle.crane_pictures.specs.Lists.{IsListOf}
use Rattle.crane_pictures.specs.Pictures.{picture_mark, work_picture}

abbrev pub is_option : List ℕ → Bool
is_option word = same_text word (codes "--cranes")

abbrev pub name_behind : List ℕ → List ℕ → Option (List ℕ)
name_behind option name = if is_option option && is_name name then Some name else None

abbrev pub name_in : Option (List ℕ) → Option (List ℕ) → Option (List ℕ)
name_in (Some option) (Some name) = name_behind option name
name_in _ _ = None

-- the name behind the program's name and `--cranes`
abbrev pub list_asked : List (List ℕ) → Option (List ℕ)
list_asked words = if length words == 3 then name_in (slice_get words 1) (slice_get words 2) else None

-- the list is that of the file
pub record IsReadFrom (files : Option Files) (name : List ℕ) (list : CraneReport) : Type 0 where
  pub bytes : List ℕ
  pub content : IsContent files name bytes
  pub is_list : IsListOf bytes list

-- a picture of a crane list that this program wrote, or no bytes
abbrev pub is_own_picture : List ℕ → Bool
is_own_picture text = is_empty_text text || starts_with nat_eq text picture_mark

-- such a picture stands there, or no bytes; or the folder failed on it
abbrev pub IsFree : Option Files → Type 0 → List ℕ → Type 0
IsFree files cause picture = cause ⊎ ((bytes : List ℕ) × IsContent files picture bytes × (is_own_picture bytes ≡ true))

-- other bytes stand there
pub record IsForeign (files : Option Files) (picture : List ℕ) : Type 0 where
  pub bytes : List ℕ
  pub content : IsContent files picture bytes
  pub foreign : is_own_picture bytes ≡ false

-- the picture of a list under its name, and a line for it
abbrev pub file_of : List ℕ → List ℕ → CraneReport → NamedFile
file_of name picture list = record { name = picture; bytes = work_picture name list }

pub record IsPictureOf (name picture : List ℕ) (list : CraneReport) (work : Work) : Type 0 where
  pub files : work.files ≡ file_of name picture list ∷ []
  pub report : work.report ≡ line_of (file_of name picture list)

-- the list of the file is drawn, and its picture may be written
pub record IsMade (files : Option Files) (cause : Type 0) (name picture : List ℕ) (work : Work) : Type 0 where
  pub list : CraneReport
  pub read : IsReadFrom files name list
  pub free : IsFree files cause picture
  pub work_is : IsPictureOf name picture list work

-- why there is no list, why its picture may not be written, and either
abbrev pub IsReadStop : Type 0 → Stop → Type 0
IsReadStop cause (stop.Line n) = Unit {0}
IsReadStop cause stop.Failed = cause
IsReadStop cause stop.Kept = ⊥
IsReadStop cause stop.NoMemory = Unit {0}

abbrev pub IsGuarded : Option Files → List ℕ → Stop → Type 0
IsGuarded files picture stop.Kept = IsForeign files picture
IsGuarded files picture stop.NoMemory = Unit {0}
IsGuarded _ _ _ = ⊥

abbrev pub IsStop : Option Files → Type 0 → List ℕ → Stop → Type 0
IsStop files cause picture (stop.Line n) = Unit {0}
IsStop files cause picture stop.Failed = cause
IsStop files cause picture stop.Kept = IsForeign files picture
IsStop files cause picture stop.NoMemory = Unit {0}

-- what was made is finished with the status
pub record IsDone (name picture : List ℕ) (s : Status) (before now : Outside) : Type 0 where
  pub work : Work
  pub made : IsMade before.files (FolderRose before now) name picture work
  pub finished : Completes work s before now

abbrev pub refused_list : ℕ → List ℕ
refused_list line = codes "refused cranes " ++ (decimal line ++ codes "\n")

-- the line from which on the file is no crane list is printed; nothing is written
pub record IsRefused (before now : Outside) : Type 0 where
  pub line : ℕ
  pub stays : now.files ≡ before.files
  pub says : Prints (refused_list line) before now

-- what another maker wrote stands under the picture's name, and the line that says so is printed; nothing is written
pub record IsKept (picture : List ℕ) (before now : Outside) : Type 0 where
  pub foreign : IsForeign before.files picture
  pub stays : now.files ≡ before.files
  pub says : Prints (refused_page picture) before now

-- the file could not be read; nothing is written
pub record IsUnread (name : List ℕ) (before now : Outside) : Type 0 where
  pub cause : FolderRose before now
  pub stays : now.files ≡ before.files
  pub says : Prints (fault_read name) before now

-- how the drawing of the list of this name may end: the status, and what is outside before it and after it
abbrev pub IsRun : List ℕ → List ℕ → Status → Outside → Outside → Type 0
IsRun name picture status.Fine before now = IsDone name picture status.Fine before now
IsRun name picture status.Words before now = ⊥
IsRun name picture status.Input before now = IsRefused before now ⊎ IsKept picture before now
IsRun name picture status.Fault before now = IsDone name picture status.Fault before now ⊎ IsUnread name before now
IsRun name picture status.Memory before now = IsDone name picture status.Memory before now ⊎ ((now.files ≡ before.files) × Prints (codes "memory\n") before now)

-- the picture has the file's name and `.svg`
abbrev pub IsWorkRun : List ℕ → Status → Outside → Outside → Type 0
IsWorkRun name s before now = IsRun name (picture_name name) s before now
