-- What the files are read as.
use Rattle.std.specs.Prelude.{◌≡◌, ◌≢◌, ◌⊎◌, ℕ, true, false, List, Option, IfSome}
use Rattle.stow_io.specs.Files.{Files, bytes_at}
use Rattle.baplie.specs.declared.parts.Message.{Message}
use Rattle.baplie.specs.Messages.{IsMessageOf}
use Rattle.baplie.specs.declared.faults.BaplieFault.{BaplieFault}
use Rattle.baplie.specs.declared.faults.BaplieFault.TheVariants.{Seg, At, NoMemory}
use Rattle.baplie.specs.Reading.{IsBaplieFault}
use Rattle.edifact_segments.specs.declared.faults.SegFault.TheVariants as seg
use Rattle.stow_report.specs.declared.lines.Line.{Line}
use Rattle.stow_report.specs.Refusals.{refusal_text}
use Rattle.stow_report.specs.Faults.{interchange_line, message_line}
use Rattle.stow_report.specs.Listings.{AreListable}
use Rattle.bay_views.specs.Pages.{is_own_page}
use Rattle.picture_files.specs.declared.reading.View.{View}
use Rattle.picture_files.specs.declared.reading.Told.{Told}
use Rattle.picture_files.specs.declared.reading.Told.TheVariants as told
use Rattle.picture_files.specs.declared.reading.Stop.{Stop}
use Rattle.picture_files.specs.declared.reading.Stop.TheVariants as stop

-- the bytes are those under the name, or no bytes where none stand there. Of a folder that doesn't tell they may be any
abbrev pub IsContent : Option Files → List ℕ → List ℕ → Type 0
IsContent files name bytes = IfSome files (λ m. bytes ≡ bytes_at m name)

-- a text that is no bay plan
abbrev pub file_line : BaplieFault → Line
file_line (Seg fault) = interchange_line fault
file_line (At n cause) = message_line n cause
file_line NoMemory = interchange_line seg.NoMemory

pub record IsPlan (bytes : List ℕ) (message : Message) : Type 0 where
  pub is_message : IsMessageOf bytes message
  pub listable : AreListable message.groups

-- the line says why the text is no bay plan
pub record IsLineOf (bytes line : List ℕ) : Type 0 where
  pub fault : BaplieFault
  pub named : fault ≢ NoMemory
  pub has : IsBaplieFault bytes fault
  pub line_is : line ≡ refusal_text (file_line fault)

abbrev pub TellsOf : List ℕ → Told → Type 0
TellsOf bytes (told.Message message) = IsPlan bytes message
TellsOf bytes (told.Line line) = IsLineOf bytes line

-- the message is that of the file
pub record IsViewOf (files : Option Files) (view : View) : Type 0 where
  pub bytes : List ℕ
  pub content : IsContent files view.name bytes
  pub plan : IsPlan bytes view.message

-- the line says why the file of one of these names is no bay plan
pub record RefusesOne (files : Option Files) (names : List ℕ → Type 0) (line : List ℕ) : Type 0 where
  pub name : List ℕ
  pub is_named : names name
  pub bytes : List ℕ
  pub content : IsContent files name bytes
  pub says : IsLineOf bytes line

-- a page of this program's stands there, or no bytes; or the folder failed on it
abbrev pub IsFree : Option Files → Type 0 → List ℕ → Type 0
IsFree files cause page = cause ⊎ ((bytes : List ℕ) × IsContent files page bytes × (is_own_page bytes ≡ true))

-- other bytes stand there
pub record IsForeign (files : Option Files) (page : List ℕ) : Type 0 where
  pub bytes : List ℕ
  pub content : IsContent files page bytes
  pub foreign : is_own_page bytes ≡ false

-- why no page may be written
abbrev pub IsGuarded : Option Files → Stop → Type 0
IsGuarded files (stop.Kept page) = IsForeign files page
IsGuarded files stop.NoMemory = Unit {0}
IsGuarded _ _ = ⊥

-- why there are no pictures
abbrev pub IsStop : Option Files → Type 0 → (List ℕ → Type 0) → Stop → Type 0
IsStop files cause names (stop.Refused line) = RefusesOne files names line
IsStop files cause names (stop.Failed name) = cause × names name.now
IsStop files cause names (stop.Kept page) = IsForeign files page
IsStop files cause names stop.NoMemory = Unit {0}
