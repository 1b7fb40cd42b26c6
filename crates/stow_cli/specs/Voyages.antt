-- What the files of a plan mean: the departures of a legal voyage, their cost, and the certificate of a bound.
use Rattle.std.specs.Prelude.{◌≡◌, ◌<◌, ◌+◌, ◌*◌, ℕ, length, List, [], ◌∷◌, ◌++◌, map, Option, Some, None}
use Rattle.stow_data.specs.Plans.{Plan}
use Rattle.plan_files.specs.Shown.{IsLegalFileSet, shown_by}
use Rattle.baplie.specs.declared.parts.Message.{Message}
use Rattle.baplie.specs.Messages.{IsMessageOf}
use Rattle.stow_io.specs.declared.files.NamedFile.{NamedFile}
use Rattle.stow_io.specs.declared.files.Work.{Work}
use Rattle.stow_report.specs.Reports.{report_text}
use Rattle.voyage_meaning.specs.Voyage.{HasCost}
use Rattle.zero_one_rows.specs.Variables.{Voyage, variables}
use Rattle.certificate.specs.declared.tree.Head.{Head}
use Rattle.certificate.specs.declared.tree.Record.{Record}
use Rattle.plan_search.specs.Certified.{Certifies}
use Rattle.voyage_files.specs.declared.voyage.BookedVoyage.{BookedVoyage}
use Rattle.stow_cli.specs.Work.{files_of, cert_file, finding_of, IsShort, IsOverlong}

-- the voyage whose 0-1 program is the question
abbrev pub voyage_of : BookedVoyage → Voyage
voyage_of v = record { ship = v.ship; cargo = v.cargo }

-- each file is the text of an interchange, and that of its bay plan message
abbrev pub ReadAs : List NamedFile → List Message → Type 0
ReadAs [] [] = Unit {0}
ReadAs (f ∷ fs) (m ∷ ms) = IsMessageOf f.bytes m × ReadAs fs ms
ReadAs [] (m ∷ ms) = ⊥
ReadAs (f ∷ fs) [] = ⊥

-- The departure files of calls 1 to N-1. They read as bay plan messages, which show legal departures; these are those of a legal voyage, and their cost, the least of all legal voyages with these departures, is this number.
pub record AreDepartures (base : List ℕ) (v : BookedVoyage) (files : List NamedFile) (cost : ℕ) : Type 0 where
  pub departures : List Plan
  pub files_are : files ≡ files_of base v 1 departures
  pub messages : List Message
  pub read : ReadAs files messages
  pub shown : IsLegalFileSet v.ship v.cargo (map shown_by messages) departures
  pub costs : HasCost v.ship v.cargo departures cost

-- the departure files of this cost; none where there is no plan
abbrev pub Sail : List ℕ → BookedVoyage → List NamedFile → Option ℕ → Type 0
Sail base v files None = files ≡ []
Sail base v files (Some cost) = AreDepartures base v files cost

-- The answer of a plan with a budget of nodes: the departure files of the cost that the head of the certificate names, and the certificate; the report has the head's values, and the run found what its outcome says.
pub record Sails (base : List ℕ) (v : BookedVoyage) (budget : ℕ) (work : Work) : Type 0 where
  pub head : Head
  pub tree : List Record
  pub certified : Certifies (voyage_of v) budget head tree
  pub short : IsShort head tree
  pub departures : List NamedFile
  pub files : work.files ≡ departures ++ cert_file base head tree ∷ []
  pub sail : Sail base v departures head.rehandles
  pub report : work.report ≡ report_text head
  pub finding : work.finding ≡ finding_of head.outcome

-- The certificate's text is longer than its limit, and the line says how long it is; nothing is written. That never comes where the budget and the variables of the program leave no room for so long a text.
pub record Overflows (v : BookedVoyage) (budget : ℕ) (line : List ℕ) : Type 0 where
  pub head : Head
  pub tree : List Record
  pub certified : Certifies (voyage_of v) budget head tree
  pub overlong : IsOverlong head tree line
  pub possible : 536870912 < budget * (length (variables (voyage_of v)) + 70) * 80 + 400000
