-- What accepted inputs are answered.
use Rattle.std.proofs.Common.{◌≡◌, ℕ, ◌≤◌, List, Option, subst, inl, inr, arith}
use Rattle.std.specs.Prelude.{Result, Ok, Err, IfOk, IfErr}
use Rattle.stow_io.specs.Files.{Files}
use Rattle.stow_io.specs.Causes.{Rose}
use Rattle.voyage_files.specs.declared.answer.Answer.{Answer}
use Rattle.voyage_files.specs.declared.voyage.BookedVoyage.{BookedVoyage}
use Rattle.voyage_files.specs.declared.reading.ReadStop.{ReadStop}
use Rattle.voyage_files.specs.declared.reading.ReadStop.TheVariants.{Failed, FailedOwn, NoMemory}
use Rattle.voyage_files.specs.declared.reading.Found.{Found}
use Rattle.voyage_files.specs.declared.reading.Found.TheVariants.{Voyage}
use Rattle.zero_one_model.specs.Building.{IsWithin}
use Rattle.voyage_files.specs.Names.{Names}
use Rattle.voyage_files.specs.Reading.{AreTaken, IsFound}
use Rattle.voyage_files.specs.Named.{IsStop}
use Rattle.stow_cli.specs.Voyages.{voyage_of}
use Rattle.stow_cli.specs.Checks.{IsWrittenRead}
use Rattle.stow_cli.specs.Answers.{Judges, CheckOf, IsWrittenOf, IsCheckRead}

pub taken : (names : Names) (files : Option Files) (found : Found) (v : BookedVoyage) → IsFound names files found → found ≡ Voyage v → AreTaken names files v
taken names files found v h is = subst (IsFound names files) is h

pub judges : (names : Names) (files : Option Files) (P : BookedVoyage → Answer → Type 0) (a : Answer) (v : BookedVoyage) → AreTaken names files v → P v a → Judges names files P a
judges names files P a v t h = inl (record { voyage = v; inputs_are = t.inputs_are; judged = h })

pub check_judges : {E : Type 0} (r : Result Answer E) (names : Names) (files files' : Option Files) (v : BookedVoyage) → AreTaken names files v → files' ≡ files → IfOk r (CheckOf names.base files' v) → IfOk r (Judges names files (CheckOf names.base files))
check_judges (Ok a) names files files' v t same h =
    judges names files (CheckOf names.base files) a v t (subst (λ (fs : Option Files). CheckOf names.base fs v a) same h)
check_judges (Err e) names files files' v t same h = tt

-- within the limits the certificate and the departure files are read
pub written_read : (names : Names) (files : Option Files) (v : BookedVoyage) (name : List ℕ) → AreTaken names files v → IsWithin (voyage_of v) → IsWrittenRead names.base files v name → IsWrittenOf names files name
written_read names files v name t within is = record {
  voyage = v;
  inputs_are = t.inputs_are;
  within = within;
  is_read = is;
}

pub rose_before : (old mid new : ℕ) → old ≤ mid → Rose mid new → Rose old new
rose_before old mid new le rose = omega arith

abbrev pub IsStopOf : List ℕ → Option Files → BookedVoyage → List ℕ → Type 0
IsStopOf base files v name = IsWithin (voyage_of v) × IsWrittenRead base files v name

stops : (r : Result Answer ReadStop) (names : Names) (files : Option Files) (v : BookedVoyage) (old mid new : ℕ) → AreTaken names files v → old ≤ mid → IfErr r (IsStop (Rose mid new) (IsStopOf names.base files v)) → IfErr r (IsStop (Rose old new) (IsCheckRead names files))
stops (Ok a) names files v old mid new t le h = tt
stops (Err (Failed n)) names files v old mid new t le h = (rose_before old mid new le h.0, inr (written_read names files v n.now t h.1.0 h.1.1))
stops (Err (FailedOwn n)) names files v old mid new t le h = (rose_before old mid new le h.0, inr (written_read names files v n t h.1.0 h.1.1))
stops (Err NoMemory) names files v old mid new t le h = tt

-- a failed read of a written file is one that a check makes
pub check_stops : (r : Result Answer ReadStop) (names : Names) (files files' : Option Files) (v : BookedVoyage) (old mid new : ℕ) → AreTaken names files v → files' ≡ files → old ≤ mid
    → IfErr r (IsStop (Rose mid new) (IsStopOf names.base files' v)) → IfErr r (IsStop (Rose old new) (IsCheckRead names files))
check_stops r names files files' v old mid new t same le h = stops r names files v old mid new t le (subst (λ (fs : Option Files). IfErr r (IsStop (Rose mid new) (IsStopOf names.base fs v))) same h)
