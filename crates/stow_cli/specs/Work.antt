-- The files and the report of a voyage.
use Rattle.std.specs.Prelude.{◌≡◌, ◌<◌, ◌≤◌, ℕ, ◌+◌, ◌/◌, ◌%◌, codes, List, [], ◌∷◌, ◌++◌, length, All, Option, Some, None}
use Rattle.std.specs.Fmt.{decimal}
use Rattle.stow_data.specs.declared.limits.Limit.TheVariants.{Certificate}
use Rattle.stow_data.specs.Plans.{Plan}
use Rattle.stowage_rules.specs.Plan.{IsWellFormed}
use Rattle.arrival_plan.specs.Settled.{groups_of}
use Rattle.plan_files.specs.DepartureFile.{groups, file_text}
use Rattle.certificate.specs.declared.tree.Head.{Head}
use Rattle.certificate.specs.declared.tree.Outcome.{Outcome}
use Rattle.certificate.specs.declared.tree.Outcome.TheVariants as outcome
use Rattle.certificate.specs.declared.tree.Record.{Record}
use Rattle.certificate.specs.Text.{cert_text}
use Rattle.plan_search.specs.declared.planning.Planned.{Planned}
use Rattle.stow_io.specs.declared.files.Finding.{Finding}
use Rattle.stow_io.specs.declared.files.Finding.TheVariants as finding
use Rattle.stow_io.specs.declared.files.NamedFile.{NamedFile}
use Rattle.stow_io.specs.declared.files.Work.{Work}
use Rattle.stow_report.specs.Refusals.{refusal_text}
use Rattle.stow_report.specs.Inputs.{limit_line}
use Rattle.stow_report.specs.Reports.{report_text}
use Rattle.voyage_files.specs.declared.answer.Answer.{Answer}
use Rattle.voyage_files.specs.declared.answer.Answer.TheVariants as answer
use Rattle.voyage_files.specs.declared.voyage.BookedVoyage.{BookedVoyage}

-- plans that can be written: fewer than the calls, each well formed
pub record ArePlans (v : BookedVoyage) (plans : List Plan) : Type 0 where
  pub departs : length plans < length v.cargo.rotation
  pub formed : All (IsWellFormed v.ship v.cargo) plans

abbrev pub ArePlansOrNone : BookedVoyage → Option (List Plan) → Type 0
ArePlansOrNone v None = Unit {0}
ArePlansOrNone v (Some plans) = ArePlans v plans

-- the call in two digits
abbrev pub two_digits : ℕ → List ℕ
two_digits call = decimal (call / 10) ++ decimal (call % 10)

abbrev pub file_name : List ℕ → ℕ → List ℕ
file_name base call = (base ++ (codes "-" ++ two_digits call)) ++ codes ".edi"

-- the departure file of a call, under its name
abbrev pub file_of : List ℕ → BookedVoyage → ℕ → Plan → NamedFile
file_of base v call plan = record { name = file_name base call; bytes = file_text v.cargo v.bookings call (groups v.ship v.cargo v.bookings (groups_of v.message) plan) }

-- a file for each plan, from this call on
unfoldable pub files_of : List ℕ → BookedVoyage → ℕ → List Plan → List NamedFile
files_of base v call [] = []
files_of base v call (plan ∷ plans) = file_of base v call plan ∷ files_of base v (call + 1) plans

-- the departure files from call 1 on, where there are plans
abbrev pub departure_files : List ℕ → BookedVoyage → Option (List Plan) → List NamedFile
departure_files base v None = []
departure_files base v (Some plans) = files_of base v 1 plans

abbrev pub cert_name : List ℕ → List ℕ
cert_name base = base ++ codes ".cert"

-- a certificate, under its name
abbrev pub cert_file : List ℕ → Head → List Record → NamedFile
cert_file base head tree = record { name = cert_name base; bytes = cert_text head tree }

-- what a plan's outcome is for the status
abbrev pub finding_of : Outcome → Finding
finding_of outcome.Optimal = finding.Fine
finding_of outcome.Gap = finding.Gap
finding_of outcome.NoPlan = finding.NoPlan
finding_of outcome.Undecided = finding.Undecided

-- the departure files and the certificate, and the report
abbrev pub work_of : List ℕ → BookedVoyage → Planned → Work
work_of base v p = record { files = departure_files base v p.plans ++ cert_file base p.head p.tree ∷ []; report = report_text p.head; finding = finding_of p.head.outcome }

-- the limit of a certificate's bytes
abbrev pub IsShort : Head → List Record → Type 0
IsShort head tree = length (cert_text head tree) ≤ 536870912

-- the line says that the certificate's text is longer than its limit, and how long it is
pub record IsOverlong (head : Head) (tree : List Record) (line : List ℕ) : Type 0 where
  pub long : 536870912 < length (cert_text head tree)
  pub line_is : line ≡ refusal_text (limit_line Certificate (length (cert_text head tree)))

-- the texts of a certificate and of its plans, or the line of the certificate's limit
abbrev pub AreTextsOf : List ℕ → BookedVoyage → Planned → Answer → Type 0
AreTextsOf base v p (answer.Work work) = IsShort p.head p.tree × (work ≡ work_of base v p)
AreTextsOf base v p (answer.Large line) = IsOverlong p.head p.tree line
AreTextsOf base v p (answer.No line) = ⊥
AreTextsOf base v p (answer.Input line) = ⊥
AreTextsOf base v p answer.Call = ⊥
