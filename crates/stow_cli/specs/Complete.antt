-- Accepted input has an answer: how a run ends that no fault stops.
use Rattle.std.specs.Prelude.{◌≡◌, ◌⊎◌, ◌<◌, ℕ, List, length, Option, Some, Result, Ok, Err}
use Rattle.stow_io.specs.Files.{Files}
use Rattle.zero_one_model.specs.Building.{IsWithin}
use Rattle.stow_io.specs.Ends.{Prints}
use Rattle.stow_io.specs.Outside.{Outside, HasRisen}
use Rattle.stow_io.specs.declared.files.Work.{Work}
use Rattle.stow_words.specs.declared.order.Order.{Order}
use Rattle.stow_words.specs.declared.order.Order.TheVariants as order
use Rattle.stow_words.specs.declared.order.WordsNo.{WordsNo}
use Rattle.stow_data.specs.Plans.{Plan}
use Rattle.voyage_files.specs.Names.{Names, names_from}
use Rattle.voyage_files.specs.Inputs.{AreInputs}
use Rattle.voyage_files.specs.declared.answer.Answer.TheVariants as answer
use Rattle.voyage_files.specs.declared.voyage.BookedVoyage.{BookedVoyage}
use Rattle.stow_cli.specs.Answers.{IsAnswerTo}
use Rattle.stow_cli.specs.SharedOut.{ShowDepartures}
use Rattle.stow_cli.specs.Cranes.{AreAllTexts}
use Rattle.stow_cli.specs.Made.{made_inputs}
use Rattle.stow_cli.specs.Voyages.{Overflows, voyage_of}
use Rattle.stow_cli.specs.declared.status.Status.{Status}
use Rattle.stow_cli.specs.declared.status.Status.TheVariants as status

-- the inputs are accepted, and their 0-1 program is within its limits
pub record AreGood (names : Names) (files : Option Files) (v : BookedVoyage) : Type 0 where
  pub inputs_are : AreInputs names files v
  pub within : IsWithin (voyage_of v)

-- a search for plans ends with what it found, or with a certificate that is too long, as the printed line says, or for want of memory
abbrev pub EndsSearch : BookedVoyage → ℕ → Status → Outside → Outside → Type 0
EndsSearch v budget status.Fine before now = Unit {0}
EndsSearch v budget status.Gap before now = Unit {0}
EndsSearch v budget status.NoPlan before now = Unit {0}
EndsSearch v budget status.Undecided before now = Unit {0}
EndsSearch v budget status.Memory before now = Unit {0}
EndsSearch v budget status.Large before now = (line : List ℕ) × Overflows v budget line × Prints line before now
EndsSearch v budget _ before now = ⊥

-- all is as it was asked for, or memory was wanting
abbrev pub IsFine : Status → Type 0
IsFine s = (s ≡ status.Fine) ⊎ (s ≡ status.Memory)

-- departure files that are a legal file set of accepted inputs, and a call before the last
pub record HaveDepartures (names : Names) (call : ℕ) (files : Option Files) : Type 0 where
  pub voyage : BookedVoyage
  pub inputs_are : AreInputs names files voyage
  pub before_last : call < length voyage.bookings.rotation
  pub texts : List (List ℕ)
  pub all : AreAllTexts names.base files voyage texts
  pub departures : List Plan
  pub shown : ShowDepartures voyage.ship voyage.cargo texts departures

-- Good inputs of `plan` are searched, and so is the voyage of a made ship, whatever its number. Files that `check` has a yes for have that, a bay plan is listed, and the moves of a call are shared out where the departure files are a legal file set
abbrev pub EndsOrder : Order → Status → Outside → Outside → Type 0
EndsOrder (order.Plan profile bookings base arrival workers budget) s before now = (files : Files) (v : BookedVoyage) → before.files ≡ Some files → AreGood (names_from profile bookings base arrival) (Some files) v → EndsSearch v budget s before now
EndsOrder (order.Make number base) s before now = EndsSearch (made_inputs number) 50 s before now
EndsOrder (order.Check profile bookings base arrival) s before now = (files : Files) (work : Work) → before.files ≡ Some files → IsAnswerTo (order.Check profile bookings base arrival) (Some files) (answer.Work work) → IsFine s
EndsOrder (order.Cranes profile bookings base arrival call count) s before now = (files : Files) → before.files ≡ Some files → HaveDepartures (names_from profile bookings base arrival) call (Some files) → IsFine s
EndsOrder (order.Show file) s before now = (files : Files) (work : Work) → before.files ≡ Some files → IsAnswerTo (order.Show file) (Some files) (answer.Work work) → IsFine s

-- An order ends so where neither count of faults rose. `make` is never refused: where one rose it ends so too, or with the status of a fault
abbrev pub IsComplete : Result Order WordsNo → Status → Outside → Outside → Type 0
IsComplete (Err why) s before now = Unit {0}
IsComplete (Ok (order.Make number base)) s before now = (s ≡ status.Fault) ⊎ EndsOrder (order.Make number base) s before now
IsComplete (Ok other) s before now = (HasRisen before now → ⊥) → EndsOrder other s before now
