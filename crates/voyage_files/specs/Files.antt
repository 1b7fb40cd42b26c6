-- The departure files of a voyage as texts: their messages, and their cost.
use Rattle.std.specs.Prelude.{◌≡◌, ◌≢◌, ◌⊎◌, ℕ, suc, List, [], ◌∷◌, map, Option, Some, None}
use Rattle.stow_data.specs.Ship.{Ship}
use Rattle.stow_data.specs.Shipment.{Cargo}
use Rattle.baplie.specs.declared.parts.Message.{Message}
use Rattle.baplie.specs.Messages.{IsMessageOf}
use Rattle.baplie.specs.declared.faults.BaplieFault.{BaplieFault}
use Rattle.baplie.specs.declared.faults.BaplieFault.TheVariants as baplie
use Rattle.baplie.specs.Reading.{IsBaplieFault}
use Rattle.plan_files.specs.Shown.{shown_by}
use Rattle.plan_files.specs.declared.checking.FileSet.{FileSet}
use Rattle.plan_files.specs.declared.plan_faults.PlanNo.{PlanNo}
use Rattle.plan_files.specs.declared.plan_faults.PlanNo.TheVariants as plan
use Rattle.plan_files.specs.Checked.{FilesCost, IsPlanNo, IsSetOf}
use Rattle.voyage_files.specs.declared.refusals.JudgeNo.{JudgeNo}
use Rattle.voyage_files.specs.declared.refusals.JudgeNo.TheVariants.{Text, Plan, NoMemory}

-- the texts are those of these bay plan messages
abbrev pub AreMessages : List (List ℕ) → List Message → Type 0
AreMessages [] [] = Unit {0}
AreMessages (text ∷ texts) (m ∷ ms) = IsMessageOf text m × AreMessages texts ms
AreMessages [] (m ∷ ms) = ⊥
AreMessages (text ∷ texts) [] = ⊥

-- the text is no bay plan message, for this fault
abbrev pub HasTextFault : List ℕ → BaplieFault → Type 0
HasTextFault text fault = (fault ≢ baplie.NoMemory) × IsBaplieFault text fault

-- of the texts of the calls from one on, that of call `at` is the first that is no bay plan message, for this fault
abbrev pub IsFirstFaulty : ℕ → List (List ℕ) → ℕ → BaplieFault → Type 0
IsFirstFaulty call [] at fault = ⊥
IsFirstFaulty call (text ∷ texts) at fault = ((at ≡ call) × HasTextFault text fault) ⊎ (((m : Message) × IsMessageOf text m) × IsFirstFaulty (suc call) texts at fault)

-- the texts are those of bay plan messages, which are a legal file set of this cost
pub record AreLegal (ship : Ship) (cargo : Cargo) (texts : List (List ℕ)) (cost : ℕ) : Type 0 where
  pub messages : List Message
  pub read : AreMessages texts messages
  pub set : FilesCost ship cargo (map shown_by messages) cost

-- the same file set, with its departures and what must be lifted on a voyage with them
pub record AreSetOf (ship : Ship) (cargo : Cargo) (texts : List (List ℕ)) (set : FileSet) : Type 0 where
  pub messages : List Message
  pub read : AreMessages texts messages
  pub is_set : IsSetOf ship cargo (map shown_by messages) set

-- the texts are those of bay plan messages, which are no legal file set, for this
pub record AreIllegal (ship : Ship) (cargo : Cargo) (texts : List (List ℕ)) (cause : PlanNo) : Type 0 where
  pub messages : List Message
  pub read : AreMessages texts messages
  pub named : cause ≢ plan.NoMemory
  pub refused : IsPlanNo ship cargo messages cause

-- where a certificate says a cost, the departure files are a legal file set of the cost that is found; where it says none, they aren't looked at
abbrev pub FilesTake : Ship → Cargo → List (List ℕ) → Option ℕ → Option ℕ → Type 0
FilesTake ship cargo texts None None = Unit {0}
FilesTake ship cargo texts (Some said) (Some found) = AreLegal ship cargo texts found
FilesTake ship cargo texts None (Some found) = ⊥
FilesTake ship cargo texts (Some said) None = ⊥

-- ## Parts of the answer

-- why the text of a call is refused
abbrev pub IsTextNo : ℕ → List ℕ → JudgeNo → Type 0
IsTextNo call text (Text at fault) = (at ≡ call) × HasTextFault text fault
IsTextNo call text NoMemory = Unit {0}
IsTextNo call text _ = ⊥

-- why texts are refused, of which the first is that of this call
abbrev pub IsTextsNo : ℕ → List (List ℕ) → JudgeNo → Type 0
IsTextsNo call texts (Text at fault) = IsFirstFaulty call texts at fault
IsTextsNo call texts NoMemory = Unit {0}
IsTextsNo call texts _ = ⊥

-- why messages are refused
abbrev pub IsSetNo : Ship → Cargo → List Message → JudgeNo → Type 0
IsSetNo ship cargo messages (Plan cause) = (cause ≢ plan.NoMemory) × IsPlanNo ship cargo messages cause
IsSetNo ship cargo messages NoMemory = Unit {0}
IsSetNo ship cargo messages _ = ⊥

-- why departure files are refused
abbrev pub IsTakenNo : Ship → Cargo → List (List ℕ) → JudgeNo → Type 0
IsTakenNo ship cargo texts (Text at fault) = IsFirstFaulty 1 texts at fault
IsTakenNo ship cargo texts (Plan cause) = AreIllegal ship cargo texts cause
IsTakenNo ship cargo texts NoMemory = Unit {0}
IsTakenNo ship cargo texts _ = ⊥

-- they are refused only where a certificate says a cost
abbrev pub IsFilesNo : Ship → Cargo → List (List ℕ) → Option ℕ → JudgeNo → Type 0
IsFilesNo ship cargo texts None cause = ⊥
IsFilesNo ship cargo texts (Some said) cause = IsTakenNo ship cargo texts cause
