-- What each order is answered.
use Rattle.std.specs.Prelude.{◌≡◌, ◌≢◌, ◌⊎◌, ℕ, List, [], Option}
use Rattle.stow_io.specs.Files.{Files}
use Rattle.stow_data.specs.declared.limits.Limit.{Limit}
use Rattle.zero_one_rows.specs.Variables.{Voyage}
use Rattle.zero_one_model.specs.Building.{IsWithin, Passes}
use Rattle.baplie.specs.declared.parts.Message.{Message}
use Rattle.baplie.specs.declared.faults.BaplieFault.{BaplieFault}
use Rattle.baplie.specs.declared.faults.BaplieFault.TheVariants.{NoMemory}
use Rattle.baplie.specs.Messages.{IsMessageOf}
use Rattle.baplie.specs.Reading.{IsBaplieFault}
use Rattle.stow_report.specs.Refusals.{refusal_text}
use Rattle.stow_report.specs.Inputs.{limit_line}
use Rattle.stow_report.specs.Listings.{listing_text}
use Rattle.voyage_files.specs.declared.answer.Answer.{Answer}
use Rattle.voyage_files.specs.declared.answer.Answer.TheVariants as answer
use Rattle.stow_io.specs.declared.files.Work.{Work}
use Rattle.stow_io.specs.declared.files.Finding.TheVariants.{Fine}
use Rattle.stow_words.specs.declared.order.Order.{Order}
use Rattle.stow_words.specs.declared.order.Order.TheVariants.{Plan, Check, Show, Make, Cranes}
use Rattle.voyage_files.specs.Names.{Names, names_from}
use Rattle.voyage_files.specs.declared.voyage.BookedVoyage.{BookedVoyage}
use Rattle.voyage_files.specs.Inputs.{IsContent, AreInputs, TurnsDown, IsReadBy}
use Rattle.stow_report.specs.Verdicts.{file_line}
use Rattle.model_bridge.specs.Laws.{IsProblem}
use Rattle.stow_cli.specs.Voyages.{Sails, Overflows, voyage_of}
use Rattle.stow_cli.specs.Checks.{ReadsCert, IsWrittenRead}
use Rattle.stow_cli.specs.Cranes.{IsCranesRead, IsCranesTo}
use Rattle.stow_cli.specs.Made.{made_files, made_names, only_made, behind}

-- ## Inputs

-- the inputs are accepted, and their voyage is answered so
pub record Takes (names : Names) (files : Option Files) (P : BookedVoyage → Answer → Type 0) (a : Answer) : Type 0 where
  pub voyage : BookedVoyage
  pub inputs_are : AreInputs names files voyage
  pub judged : P voyage a

-- the inputs of these files are answered so, or are turned down
abbrev pub Judges : Names → Option Files → (BookedVoyage → Answer → Type 0) → Answer → Type 0
Judges names files P a = Takes names files P a ⊎ TurnsDown names files a

-- the line says which limit the model passes, and the number that passes it
pub record IsTooLarge (m : Voyage) (line : List ℕ) : Type 0 where
  pub limit : Limit
  pub number : ℕ
  pub passes : Passes m limit number
  pub line_is : line ≡ refusal_text (limit_line limit number)

-- the model passes a limit, and the answer says so
pub record IsLarge (m : Voyage) (a : Answer) : Type 0 where
  pub line : List ℕ
  pub answer_is : a ≡ answer.Large line
  pub too_large : IsTooLarge m line

-- ## `plan`

-- what a voyage within the limits is answered: plans with their certificate, the certificate that there are none, or that none were found; or that the certificate is too long
abbrev pub PlanWithin : ℕ → List ℕ → BookedVoyage → Answer → Type 0
PlanWithin budget base v (answer.Work work) = Sails base v budget work
PlanWithin budget base v (answer.Large line) = Overflows v budget line
PlanWithin budget base v (answer.No line) = ⊥
PlanWithin budget base v (answer.Input line) = ⊥
PlanWithin budget base v answer.Call = ⊥

-- the model's limits come first, then the search
abbrev pub PlanOf : ℕ → List ℕ → BookedVoyage → Answer → Type 0
PlanOf budget base v a = IsLarge (voyage_of v) a ⊎ (IsWithin (voyage_of v) × PlanWithin budget base v a)

-- what the inputs of these files are answered, with this budget
abbrev pub IsPlanTo : Names → ℕ → Option Files → Answer → Type 0
IsPlanTo names budget files a = Judges names files (PlanOf budget names.base) a

-- ## `make`

-- what `plan` answers with a budget of 50 where the folder holds the made profile and the made bookings alone; the two are written before its own files
pub record IsMade (number : ℕ) (base : List ℕ) (a : Answer) : Type 0 where
  pub planned : Answer
  pub plans : IsPlanTo (made_names base) 50 (only_made number base) planned
  pub answer_is : a ≡ behind (made_files number base) planned

-- ## `check`

-- the voyage is within the limits of its program, and the files that were written for it are answered so
pub record IsChecked (base : List ℕ) (files : Option Files) (v : BookedVoyage) (a : Answer) : Type 0 where
  pub within : IsWithin (voyage_of v)
  pub problem : IsProblem (voyage_of v)
  pub reads : ReadsCert base files v a

-- The model's limits come first. Then `check` says yes exactly where the certificate is one, where the departure files that it speaks of are bay plans, a legal file set, and cost what it says, where its tree proves its bound, and where its numbers and its outcome are those that are found. Else the line names the first part that doesn't hold, in the order certificate, departure files each by itself, departure files as a set, tree, numbers
abbrev pub CheckOf : List ℕ → Option Files → BookedVoyage → Answer → Type 0
CheckOf base files v a = IsLarge (voyage_of v) a ⊎ IsChecked base files v a

-- ## `show`

-- the text is no bay plan, and the line says why
pub record RefusesFile (bytes line : List ℕ) : Type 0 where
  pub fault : BaplieFault
  pub named : fault ≢ NoMemory
  pub has : IsBaplieFault bytes fault
  pub line_is : line ≡ refusal_text (file_line fault)

-- the bay plan of the text is listed
pub record Lists (bytes : List ℕ) (work : Work) : Type 0 where
  pub message : Message
  pub is_message : IsMessageOf bytes message
  pub no_files : work.files ≡ []
  pub report : work.report ≡ listing_text message.groups
  pub finding : work.finding ≡ Fine

-- what the text of a bay plan is answered
abbrev pub ShowOf : List ℕ → Answer → Type 0
ShowOf bytes (answer.Work work) = Lists bytes work
ShowOf bytes (answer.Input line) = RefusesFile bytes line
ShowOf bytes (answer.No line) = ⊥
ShowOf bytes (answer.Large line) = ⊥
ShowOf bytes answer.Call = ⊥

pub record IsShown (file : List ℕ) (files : Option Files) (a : Answer) : Type 0 where
  pub bytes : List ℕ
  pub content : IsContent files file bytes
  pub shown : ShowOf bytes a

-- ## All orders

-- What is said of a plan holds for any number of workers.
abbrev pub IsAnswerTo : Order → Option Files → Answer → Type 0
IsAnswerTo (Plan profile bookings base arrival workers budget) files a = IsPlanTo (names_from profile bookings base arrival) budget files a
IsAnswerTo (Check profile bookings base arrival) files a = Judges (names_from profile bookings base arrival) files (CheckOf base files) a
IsAnswerTo (Show file) files a = IsShown file files a
IsAnswerTo (Make number base) files a = IsMade number base a
IsAnswerTo (Cranes profile bookings base arrival call count) files a = IsCranesTo (names_from profile bookings base arrival) call count files a

-- the certificate and the departure files are read where the inputs are accepted and their voyage is within the limits
pub record IsWrittenOf (names : Names) (files : Option Files) (name : List ℕ) : Type 0 where
  pub voyage : BookedVoyage
  pub inputs_are : AreInputs names files voyage
  pub within : IsWithin (voyage_of voyage)
  pub is_read : IsWrittenRead names.base files voyage name

abbrev pub IsCheckRead : Names → Option Files → List ℕ → Type 0
IsCheckRead names files name = IsReadBy names files name ⊎ IsWrittenOf names files name

-- a file that is read for the order; none is for a made ship
abbrev pub IsReadFor : Order → Option Files → List ℕ → Type 0
IsReadFor (Plan profile bookings base arrival workers budget) files name = IsReadBy (names_from profile bookings base arrival) files name
IsReadFor (Check profile bookings base arrival) files name = IsCheckRead (names_from profile bookings base arrival) files name
IsReadFor (Show file) files name = name ≡ file
IsReadFor (Make number base) files name = ⊥
IsReadFor (Cranes profile bookings base arrival call count) files name = IsCranesRead (names_from profile bookings base arrival) call files name
