-- What the departure files of a voyage are answered for a call.
use Rattle.std.specs.Prelude.{◌≡◌, ◌≢◌, ℕ, List, [], map}
use Rattle.stow_data.specs.Ship.{Ship}
use Rattle.stow_data.specs.Shipment.{Cargo}
use Rattle.stow_data.specs.Plans.{Plan}
use Rattle.baplie.specs.declared.parts.Message.{Message}
use Rattle.plan_files.specs.Shown.{IsLegalFileSet, shown_by}
use Rattle.stow_report.specs.declared.crane_lists.CraneReport.{CraneReport}
use Rattle.stow_report.specs.CraneLists.{crane_text}
use Rattle.stow_report.specs.Refusals.{refusal_text}
use Rattle.stow_io.specs.declared.files.Finding.TheVariants.{Fine}
use Rattle.stow_io.specs.declared.files.Work.{Work}
use Rattle.voyage_files.specs.declared.answer.Answer.{Answer}
use Rattle.voyage_files.specs.declared.answer.Answer.TheVariants as answer
use Rattle.voyage_files.specs.declared.refusals.JudgeNo.{JudgeNo}
use Rattle.voyage_files.specs.declared.refusals.JudgeNo.TheVariants.{NoMemory}
use Rattle.voyage_files.specs.declared.voyage.BookedVoyage.{BookedVoyage}
use Rattle.voyage_files.specs.Files.{AreMessages, IsTakenNo}
use Rattle.voyage_files.specs.Lines.{line_of}
use Rattle.work_lists.specs.WorkLists.{IsWorkList}

-- the texts are those of bay plan messages, which are a legal file set of these departures
pub record ShowDepartures (ship : Ship) (cargo : Cargo) (texts : List (List ℕ)) (departures : List Plan) : Type 0 where
  pub messages : List Message
  pub read : AreMessages texts messages
  pub legal : IsLegalFileSet ship cargo (map shown_by messages) departures

-- the departure files are a legal file set; the moves of the call are shared out, which is printed, and nothing is written
pub record SharesOut (v : BookedVoyage) (call cranes : ℕ) (texts : List (List ℕ)) (work : Work) : Type 0 where
  pub departures : List Plan
  pub shown : ShowDepartures v.ship v.cargo texts departures
  pub list : CraneReport
  pub is_list : IsWorkList v.ship v.cargo departures call cranes list
  pub no_files : work.files ≡ []
  pub report : work.report ≡ crane_text list
  pub finding : work.finding ≡ Fine

-- the line says why the departure files are none
pub record RefusesFiles (v : BookedVoyage) (texts : List (List ℕ)) (line : List ℕ) : Type 0 where
  pub no : JudgeNo
  pub named : no ≢ NoMemory
  pub is_no : IsTakenNo v.ship v.cargo texts no
  pub line_is : line ≡ refusal_text (line_of no)

-- what the texts of the departure files are answered
abbrev pub SharedAs : BookedVoyage → ℕ → ℕ → List (List ℕ) → Answer → Type 0
SharedAs v call cranes texts (answer.Work work) = SharesOut v call cranes texts work
SharedAs v call cranes texts (answer.No line) = RefusesFiles v texts line
SharedAs v call cranes texts (answer.Input line) = ⊥
SharedAs v call cranes texts (answer.Large line) = ⊥
SharedAs v call cranes texts answer.Call = ⊥

-- two answers to one voyage's departure files: equal, or two work lists of the same departures
abbrev pub AreAlike : BookedVoyage → ℕ → ℕ → List (List ℕ) → Answer → Answer → Type 0
AreAlike v call cranes texts (answer.Work work) (answer.Work other) = SharesOut v call cranes texts work × SharesOut v call cranes texts other
AreAlike v call cranes texts a b = a ≡ b
