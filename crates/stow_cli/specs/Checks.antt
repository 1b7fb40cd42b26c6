-- What a certificate and the departure files beside it are answered.
use Rattle.std.specs.Prelude.{◌≡◌, ◌≢◌, ◌≤◌, ◌⊎◌, ℕ, ◌-◌, suc, List, [], ◌∷◌, length, Option, Some, None}
use Rattle.stow_io.specs.Files.{Files}
use Rattle.zero_one_rows.specs.Variables.{Voyage}
use Rattle.certificate.specs.declared.faults.CertFault.{CertFault}
use Rattle.certificate.specs.declared.tree.Head.{Head}
use Rattle.certificate.specs.declared.tree.Record.{Record}
use Rattle.certificate.specs.Grammar.{IsCert}
use Rattle.certificate.specs.FirstFault.{HasFault}
use Rattle.voyage_files.specs.declared.refusals.JudgeNo.{JudgeNo}
use Rattle.voyage_files.specs.declared.refusals.JudgeNo.TheVariants.{NoMemory}
use Rattle.voyage_files.specs.Judged.{Bounds, Holds, IsNo}
use Rattle.voyage_files.specs.Lines.{line_of}
use Rattle.stow_report.specs.Refusals.{refusal_text}
use Rattle.stow_report.specs.Verdicts.{cert_line}
use Rattle.stow_report.specs.Numbers.{yes_text}
use Rattle.voyage_files.specs.declared.answer.Answer.{Answer}
use Rattle.voyage_files.specs.declared.answer.Answer.TheVariants as answer
use Rattle.voyage_files.specs.declared.voyage.BookedVoyage.{BookedVoyage}
use Rattle.voyage_files.specs.Inputs.{IsContent}
use Rattle.stow_io.specs.declared.files.Finding.TheVariants.{Fine}
use Rattle.stow_io.specs.declared.files.Work.{Work}
use Rattle.stow_cli.specs.declared.verdict.CertText.{CertText}
use Rattle.stow_cli.specs.declared.verdict.CertText.TheVariants.{Certificate, Refused}
use Rattle.stow_cli.specs.Voyages.{voyage_of}
use Rattle.stow_cli.specs.Work.{cert_name, file_name}

-- ## Departure files

-- a file for each call but the last where a cost is said, and none else
abbrev pub count_beside : BookedVoyage → Option ℕ → ℕ
count_beside v None = 0
count_beside v (Some cost) = length v.cargo.rotation - 1

-- how many departure files a certificate speaks of
abbrev pub files_beside : BookedVoyage → Head → ℕ
files_beside v head = count_beside v head.rehandles

-- the texts are those under the names of the departure files of the calls from one on
abbrev pub AreTexts : List ℕ → Option Files → ℕ → List (List ℕ) → Type 0
AreTexts base files call [] = Unit {0}
AreTexts base files call (text ∷ texts) = IsContent files (file_name base call) text × AreTexts base files (suc call) texts

-- the texts are those of the departure files that the certificate speaks of
pub record AreBeside (base : List ℕ) (files : Option Files) (v : BookedVoyage) (head : Head) (texts : List (List ℕ)) : Type 0 where
  pub count : length texts ≡ files_beside v head
  pub are_texts : AreTexts base files 1 texts

-- ## Answers

-- all holds that the certificate says, and so does what it bounds; that is printed, and nothing is written
pub record Confirms (m : Voyage) (head : Head) (tree : List Record) (texts : List (List ℕ)) (work : Work) : Type 0 where
  pub holds : Holds m head tree texts
  pub bounds : Bounds m head
  pub no_files : work.files ≡ []
  pub report : work.report ≡ yes_text head
  pub finding : work.finding ≡ Fine

-- the line names the first part that doesn't hold
pub record RefusesPart (m : Voyage) (head : Head) (tree : List Record) (texts : List (List ℕ)) (line : List ℕ) : Type 0 where
  pub no : JudgeNo
  pub named : no ≢ NoMemory
  pub is_no : IsNo m head tree texts no
  pub line_is : line ≡ refusal_text (line_of no)

-- what a certificate and the texts of departure files are answered
abbrev pub JudgedAs : Voyage → Head → List Record → List (List ℕ) → Answer → Type 0
JudgedAs m head tree texts (answer.Work work) = Confirms m head tree texts work
JudgedAs m head tree texts (answer.No line) = RefusesPart m head tree texts line
JudgedAs m head tree texts (answer.Input line) = ⊥
JudgedAs m head tree texts (answer.Large line) = ⊥
JudgedAs m head tree texts answer.Call = ⊥

-- the departure files are read, and they and the certificate are answered so
pub record ReadsFiles (base : List ℕ) (files : Option Files) (v : BookedVoyage) (head : Head) (tree : List Record) (a : Answer) : Type 0 where
  pub texts : List (List ℕ)
  pub beside : AreBeside base files v head texts
  pub judged : JudgedAs (voyage_of v) head tree texts a

-- the text is a certificate, which is answered so with the departure files
pub record IsCertOf (base : List ℕ) (files : Option Files) (v : BookedVoyage) (bytes : List ℕ) (a : Answer) : Type 0 where
  pub head : Head
  pub tree : List Record
  pub is_cert : IsCert bytes head tree
  pub reads : ReadsFiles base files v head tree a

-- the text is no certificate, and the line says why
pub record RefusesText (bytes : List ℕ) (a : Answer) : Type 0 where
  pub fault : CertFault
  pub has : HasFault bytes fault
  pub answer_is : a ≡ answer.No (refusal_text (cert_line fault))

-- the file under the certificate's name is read, and what it says is answered so
pub record ReadsCert (base : List ℕ) (files : Option Files) (v : BookedVoyage) (a : Answer) : Type 0 where
  pub bytes : List ℕ
  pub content : IsContent files (cert_name base) bytes
  pub cert : RefusesText bytes a ⊎ IsCertOf base files v bytes a

-- ## The files that are read

-- the name of the departure file of one of so many calls
pub record IsFileName (base : List ℕ) (count : ℕ) (name : List ℕ) : Type 0 where
  pub call : ℕ
  pub from : 1 ≤ call
  pub to : call ≤ count
  pub name_is : name ≡ file_name base call

-- the departure files are read where the certificate is one
pub record IsDepartureRead (base : List ℕ) (files : Option Files) (v : BookedVoyage) (name : List ℕ) : Type 0 where
  pub bytes : List ℕ
  pub content : IsContent files (cert_name base) bytes
  pub head : Head
  pub tree : List Record
  pub is_cert : IsCert bytes head tree
  pub is_name : IsFileName base (files_beside v head) name

-- a file that is read beside the inputs
abbrev pub IsWrittenRead : List ℕ → Option Files → BookedVoyage → List ℕ → Type 0
IsWrittenRead base files v name = (name ≡ cert_name base) ⊎ IsDepartureRead base files v name

-- ## Parts of the answer

-- the certificate of a text, or the line that says why it is none
abbrev pub IsCertText : List ℕ → CertText → Type 0
IsCertText bytes (Certificate head tree) = IsCert bytes head tree
IsCertText bytes (Refused line) = (fault : CertFault) × HasFault bytes fault × (line ≡ refusal_text (cert_line fault))
