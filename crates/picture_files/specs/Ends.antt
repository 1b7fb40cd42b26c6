-- How a run ends, and what it leaves.
use Rattle.std.specs.Prelude.{◌≡◌, ◌⊎◌, ℕ, ◌<◌, ◌++◌, nat_lt, codes, List, length, map, All, Contains, is_some, IfSome, Option, Some, None, Result, Ok, Err}
use Rattle.stow_io.specs.Files.{Files}
use Rattle.stow_io.specs.Ends.{Prints, fault_read, Finishes}
use Rattle.stow_io.specs.Outside.{Outside, FolderRose}
use Rattle.stow_io.specs.declared.ending.Ended.TheVariants as ended
use Rattle.stow_io.specs.declared.files.Work.{Work}
use Rattle.picture_files.specs.declared.reading.View.{View}
use Rattle.picture_files.specs.declared.reading.Stop.{Stop}
use Rattle.picture_files.specs.declared.status.Status.{Status}
use Rattle.picture_files.specs.declared.status.Status.TheVariants as status
use Rattle.picture_files.specs.Asked.{asked}
use Rattle.picture_files.specs.Reading.{IsViewOf, IsFree, IsForeign, IsStop, RefusesOne}
use Rattle.picture_files.specs.Work.{IsWorkOf}

-- this is made of the bay plans, with a page where there are several, which may be written
pub record IsPaged (files : Option Files) (cause : Type 0) (names : List (List ℕ)) (views : List View) (work : Work) : Type 0 where
  pub page : Option (List ℕ)
  pub several : is_some page ≡ nat_lt 1 (length names)
  pub free : IfSome page (IsFree files cause)
  pub work_is : IsWorkOf views page work

-- every file was read as a bay plan, the page may be written where there are several, and this is made of them
pub record IsMade (files : Option Files) (cause : Type 0) (names : List (List ℕ)) (work : Work) : Type 0 where
  pub views : List View
  pub named : map (λ v. v.name) views ≡ names
  pub read : All (IsViewOf files) views
  pub paged : IsPaged files cause names views work

abbrev pub IsAnswer : Option Files → Type 0 → List (List ℕ) → Result Work Stop → Type 0
IsAnswer files cause names (Ok work) = IsMade files cause names work
IsAnswer files cause names (Err stop) = IsStop files cause (Contains names) stop

-- the files and the report are finished, and the status says how that ended
abbrev pub Completes : Work → Status → Outside → Outside → Type 0
Completes work status.Fine before now = Finishes work ended.Done before now
Completes work status.Fault before now = Finishes work ended.Fault before now
Completes work status.Memory before now = Finishes work ended.Memory before now
Completes _ _ _ _ = ⊥

-- what was made is finished with the status
pub record IsDone (words : List (List ℕ)) (s : Status) (before now : Outside) : Type 0 where
  pub names : List (List ℕ)
  pub names_are : asked words ≡ Some names
  pub work : Work
  pub made : IsMade before.files (FolderRose before now) names work
  pub finished : Completes work s before now

-- one of the files is no bay plan, and the line that says why is printed; nothing is written
pub record IsRefused (words : List (List ℕ)) (before now : Outside) : Type 0 where
  pub names : List (List ℕ)
  pub names_are : asked words ≡ Some names
  pub line : List ℕ
  pub refuses : RefusesOne before.files (Contains names) line
  pub stays : now.files ≡ before.files
  pub says : Prints line before now

abbrev pub refused_page : List ℕ → List ℕ
refused_page page = codes "refused page " ++ (page ++ codes "\n")

-- a page of another maker stands under the name of the page, and the line that says so is printed; nothing is written
pub record IsKept (words : List (List ℕ)) (before now : Outside) : Type 0 where
  pub names : List (List ℕ)
  pub names_are : asked words ≡ Some names
  pub page : List ℕ
  pub foreign : IsForeign before.files page
  pub stays : now.files ≡ before.files
  pub says : Prints (refused_page page) before now

-- one of the files could not be read; nothing is written
pub record IsUnread (words : List (List ℕ)) (before now : Outside) : Type 0 where
  pub names : List (List ℕ)
  pub names_are : asked words ≡ Some names
  pub name : List ℕ
  pub is_named : Contains names name
  pub cause : FolderRose before now
  pub stays : now.files ≡ before.files
  pub says : Prints (fault_read name) before now

-- the words name no files, or several
abbrev pub AreTurnedDown : Option (List (List ℕ)) → Type 0
AreTurnedDown None = Unit {0}
AreTurnedDown (Some names) = 1 < length names

-- how a run with these words may end: the status, and what is outside before it and after it
abbrev pub IsRun : List (List ℕ) → Status → Outside → Outside → Type 0
IsRun words status.Fine before now = IsDone words status.Fine before now
IsRun words status.Words before now = AreTurnedDown (asked words) × (now.files ≡ before.files) × Prints (codes "refused words 1\n") before now
IsRun words status.Input before now = IsRefused words before now ⊎ IsKept words before now
IsRun words status.Fault before now = IsDone words status.Fault before now ⊎ IsUnread words before now
IsRun words status.Memory before now = IsDone words status.Memory before now ⊎ ((now.files ≡ before.files) × Prints (codes "memory\n") before now)
