-- What `cranes` is answered.
use Rattle.std.specs.Prelude.{◌≡◌, ◌⊎◌, ℕ, ◌+◌, ◌-◌, List, length, Option, Some}
use Rattle.stow_io.specs.Files.{Files}
use Rattle.model_bridge.specs.Laws.{IsProblem}
use Rattle.voyage_files.specs.declared.answer.Answer.{Answer}
use Rattle.voyage_files.specs.declared.voyage.BookedVoyage.{BookedVoyage}
use Rattle.voyage_files.specs.Names.{Names}
use Rattle.voyage_files.specs.Inputs.{AreInputs, IsPast, IsReadAt, TurnsDownAt}
use Rattle.stow_cli.specs.SharedOut.{SharedAs}
use Rattle.stow_cli.specs.Checks.{AreTexts, IsFileName}
use Rattle.stow_cli.specs.Voyages.{voyage_of}

-- the texts are those of the departure files of all calls but the last
pub record AreAllTexts (base : List ℕ) (files : Option Files) (v : BookedVoyage) (texts : List (List ℕ)) : Type 0 where
  pub each_call : length texts + 1 ≡ length v.cargo.rotation
  pub are_texts : AreTexts base files 1 texts

-- the departure files are read, and answered so for a call and so many cranes
pub record IsShared (base : List ℕ) (files : Option Files) (call cranes : ℕ) (v : BookedVoyage) (a : Answer) : Type 0 where
  pub problem : IsProblem (voyage_of v)
  pub texts : List (List ℕ)
  pub all : AreAllTexts base files v texts
  pub shared : SharedAs v call cranes texts a

-- the inputs are accepted, and the call isn't past their last departure
pub record AreInTime (names : Names) (call : ℕ) (files : Option Files) (v : BookedVoyage) : Type 0 where
  pub inputs_are : AreInputs names files v
  pub in_time : IsPast (Some call) v.bookings → ⊥

-- their departure files are answered so
pub record TakesCall (names : Names) (call cranes : ℕ) (files : Option Files) (a : Answer) : Type 0 where
  pub voyage : BookedVoyage
  pub accepted : AreInTime names call files voyage
  pub is_shared : IsShared names.base files call cranes voyage a

-- or the inputs are turned down
abbrev pub IsCranesTo : Names → ℕ → ℕ → Option Files → Answer → Type 0
IsCranesTo names call cranes files a = TakesCall names call cranes files a ⊎ TurnsDownAt names (Some call) files a

-- the departure files are read where the inputs are accepted and the call isn't past
pub record IsDepartureOf (names : Names) (call : ℕ) (files : Option Files) (name : List ℕ) : Type 0 where
  pub voyage : BookedVoyage
  pub accepted : AreInTime names call files voyage
  pub is_name : IsFileName names.base (length voyage.cargo.rotation - 1) name

abbrev pub IsCranesRead : Names → ℕ → Option Files → List ℕ → Type 0
IsCranesRead names call files name = IsReadAt names (Some call) files name ⊎ IsDepartureOf names call files name
