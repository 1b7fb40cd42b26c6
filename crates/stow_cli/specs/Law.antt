-- The answers to one order agree.
use Rattle.std.specs.Prelude.{◌≡◌, ◌≢◌, ◌⊎◌, ◌<◌, ℕ, List, Option, Some}
use Rattle.stow_io.specs.Files.{Files}
use Rattle.stow_data.specs.declared.limits.Limit.{Limit}
use Rattle.stow_data.specs.declared.limits.Limit.TheVariants.{Certificate}
use Rattle.stow_io.specs.declared.files.Finding.{Finding}
use Rattle.stow_io.specs.declared.files.Finding.TheVariants.{Fine, Gap, NoPlan}
use Rattle.stow_io.specs.declared.files.Work.{Work}
use Rattle.stow_report.specs.Refusals.{refusal_text}
use Rattle.stow_report.specs.Inputs.{limit_line}
use Rattle.zero_one_model.specs.Building.{IsWithin}
use Rattle.voyage_files.specs.declared.answer.Answer.{Answer}
use Rattle.voyage_files.specs.declared.answer.Answer.TheVariants as answer
use Rattle.voyage_files.specs.declared.voyage.BookedVoyage.{BookedVoyage}
use Rattle.voyage_files.specs.Names.{Names, names_from}
use Rattle.voyage_files.specs.Inputs.{AreInputs}
use Rattle.stow_words.specs.declared.order.Order.{Order}
use Rattle.stow_words.specs.declared.order.Order.TheVariants as order
use Rattle.stow_cli.specs.Answers.{IsAnswerTo, PlanWithin}
use Rattle.stow_cli.specs.SharedOut.{SharesOut}
use Rattle.stow_cli.specs.Cranes.{AreAllTexts, AreInTime}
use Rattle.stow_cli.specs.Made.{behind, made_files, made_names, only_made}
use Rattle.stow_cli.specs.Voyages.{voyage_of}

-- two searches may find this of one voyage: where the one finds that there is no legal voyage, the other finds no plan
abbrev pub MayBothFind : Finding → Finding → Type 0
MayBothFind NoPlan Fine = ⊥
MayBothFind NoPlan Gap = ⊥
MayBothFind Fine NoPlan = ⊥
MayBothFind Gap NoPlan = ⊥
MayBothFind _ _ = Unit {0}

-- the line says that the text of a certificate is longer than its limit
pub record IsLongCert (line : List ℕ) : Type 0 where
  pub bytes : ℕ
  pub long : 536870912 < bytes
  pub line_is : line ≡ refusal_text (limit_line Certificate bytes)

-- two searches may answer so: what they find, and whether its certificate is too long, depends on how they search
abbrev pub MayBothAnswer : Answer → Answer → Type 0
MayBothAnswer (answer.Work work) (answer.Work other) = MayBothFind work.finding other.finding
MayBothAnswer (answer.Work work) (answer.Large line) = IsLongCert line
MayBothAnswer (answer.Large line) (answer.Work work) = IsLongCert line
MayBothAnswer (answer.Large line) (answer.Large other) = IsLongCert line × IsLongCert other
MayBothAnswer _ _ = ⊥

-- both answers come of a search for the plans of one voyage, whose program is within its limits; their certificates may differ
pub record BothSearched (names : Names) (budget : ℕ) (files : Option Files) (a b : Answer) : Type 0 where
  pub voyage : BookedVoyage
  pub inputs_are : AreInputs names files voyage
  pub within : IsWithin (voyage_of voyage)
  pub first : PlanWithin budget names.base voyage a
  pub second : PlanWithin budget names.base voyage b
  pub agree : MayBothAnswer a b

-- so do both answers to the order of a made ship, whose two files are written before those of the search
pub record BothMade (number : ℕ) (base : List ℕ) (a b : Answer) : Type 0 where
  pub planned : Answer
  pub other : Answer
  pub searched : BothSearched (made_names base) 50 (only_made number base) planned other
  pub first : a ≡ behind (made_files number base) planned
  pub second : b ≡ behind (made_files number base) other
  pub agree : MayBothAnswer a b

-- both are work lists of one call for so many cranes, of the same departure files; which moves are taken, and how they are shared out, is free
pub record BothShared (names : Names) (call cranes : ℕ) (files : Option Files) (a b : Answer) : Type 0 where
  pub voyage : BookedVoyage
  pub accepted : AreInTime names call files voyage
  pub texts : List (List ℕ)
  pub all : AreAllTexts names.base files voyage texts
  pub work : Work
  pub other : Work
  pub first : a ≡ answer.Work work
  pub second : b ≡ answer.Work other
  pub first_shares : SharesOut voyage call cranes texts work
  pub second_shares : SharesOut voyage call cranes texts other

-- the answers are equal, or those of two searches for the plans of one voyage, or two work lists of one call
abbrev pub Agree : Order → Option Files → Answer → Answer → Type 0
Agree (order.Plan profile bookings base arrival workers budget) files a b = (a ≡ b) ⊎ BothSearched (names_from profile bookings base arrival) budget files a b
Agree (order.Check profile bookings base arrival) files a b = a ≡ b
Agree (order.Show file) files a b = a ≡ b
Agree (order.Make number base) files a b = (a ≡ b) ⊎ BothMade number base a b
Agree (order.Cranes profile bookings base arrival call count) files a b = (a ≡ b) ⊎ BothShared (names_from profile bookings base arrival) call count files a b

-- over files that are told, two answers to the same order agree
abbrev pub AnswersAgree : Type 0
AnswersAgree = (o : Order) (files : Files) (a b : Answer) → IsAnswerTo o (Some files) a → IsAnswerTo o (Some files) b → Agree o (Some files) a b

-- over files that are told, an order that may be answered with files and a report isn't answered that a limit is passed, but for the limit of a certificate's text
abbrev pub LimitsExclude : Type 0
LimitsExclude = (o : Order) (files : Files) (work : Work) (limit : Limit) (n : ℕ) → limit ≢ Certificate → IsAnswerTo o (Some files) (answer.Work work) → IsAnswerTo o (Some files) (answer.Large (refusal_text (limit_line limit n))) → ⊥
