-- The check of departure files: the cost of a legal file set, or the first refusal.
use Rattle.std.specs.Prelude.{◌≡◌, ◌⊎◌, ℕ, suc, List, [], ◌∷◌, map, Err}
use Rattle.stow_data.specs.Ship.{Ship}
use Rattle.stow_data.specs.Shipment.{Cargo}
use Rattle.stow_data.specs.Plans.{Plan}
use Rattle.stowage_rules.specs.declared.faults.RuleBroken.{RuleBroken}
use Rattle.voyage_meaning.specs.Voyage.{HasCost}
use Rattle.plan_lifts.specs.Lifted.{IsFirstIllegal, IsLifted}
use Rattle.plan_lifts.specs.declared.lifting.Lifted.{Lifted}
use Rattle.plan_lifts.specs.declared.lifting.LiftsFault.{LiftsFault}
use Rattle.plan_lifts.specs.declared.lifting.LiftsFault.TheVariants as lifting
use Rattle.plan_lifts.specs.declared.lifting.LiftsFault.TheVariants.{Illegal}
use Rattle.baplie.specs.declared.parts.Message.{Message}
use Rattle.plan_files.specs.Shown.{CellGroup, IsLegalFileSet, ShowAll, Shows, shown_by}
use Rattle.plan_files.specs.PlanOf.{plan_of}
use Rattle.plan_files.specs.declared.checking.FileSet.{FileSet}
use Rattle.plan_files.specs.declared.plan_faults.PlanNo.{PlanNo}
use Rattle.plan_files.specs.declared.plan_faults.PlanNo.TheVariants.{File, Rule, NoMemory}

-- the files are a legal file set, whose departures cost so much: no legal voyage with them costs less
pub record FilesCost (ship : Ship) (cargo : Cargo) (messages : List (List CellGroup)) (number : ℕ) : Type 0 where
  pub departures : List Plan
  pub legal : IsLegalFileSet ship cargo messages departures
  pub costs : HasCost ship cargo departures number

-- this is why the file of the call shows no plan
abbrev pub IsFileFault : Ship → Cargo → ℕ → Message → PlanNo → Type 0
IsFileFault ship cargo call message (File at fault) = (at ≡ call) × (plan_of ship cargo call message.groups ≡ Err fault)
IsFileFault ship cargo call message (Rule at rule) = ⊥
IsFileFault ship cargo call message NoMemory = Unit {0}

-- of the files of the calls from one on, the first that shows no plan
abbrev pub IsUnshown : Ship → Cargo → ℕ → List Message → PlanNo → Type 0
IsUnshown ship cargo call messages NoMemory = Unit {0}
IsUnshown ship cargo call [] e = ⊥
IsUnshown ship cargo call (message ∷ messages) e = IsFileFault ship cargo call message e ⊎ (((plan : Plan) × Shows ship cargo call (shown_by message) plan) × IsUnshown ship cargo (suc call) messages e)

-- departures of calls from 1 on, by all five rules, with what must be lifted on a voyage with them, and their cost
pub record HasLifts (ship : Ship) (cargo : Cargo) (departures : List Plan) (lifted : Lifted) : Type 0 where
  pub lists : IsLifted ship cargo departures lifted.lists
  pub costs : HasCost ship cargo departures lifted.cost

-- the files are a legal file set, whose departures and lifts are these
pub record IsSetOf (ship : Ship) (cargo : Cargo) (messages : List (List CellGroup)) (set : FileSet) : Type 0 where
  pub legal : IsLegalFileSet ship cargo messages set.plans
  pub lifts : HasLifts ship cargo set.plans set.lifted

-- why they aren't
abbrev pub IsRuleFault : Ship → Cargo → List Plan → PlanNo → Type 0
IsRuleFault ship cargo plans (Rule at rule) = IsFirstIllegal ship cargo 1 plans at rule
IsRuleFault ship cargo plans (File at fault) = ⊥
IsRuleFault ship cargo plans NoMemory = Unit {0}

-- the fault of departures as that of their files
abbrev pub told_by : LiftsFault → PlanNo
told_by (Illegal at rule) = Rule at rule
told_by lifting.NoMemory = NoMemory

-- all files show plans, of which that of the call is the first that breaks a rule
pub record IsFirstBroken (ship : Ship) (cargo : Cargo) (messages : List Message) (call : ℕ) (rule : RuleBroken) : Type 0 where
  pub departures : List Plan
  pub shown : ShowAll ship cargo 1 (map shown_by messages) departures
  pub broken : IsFirstIllegal ship cargo 1 departures call rule

-- why the files are refused: all are read as plans before rules are looked at
abbrev pub IsPlanNo : Ship → Cargo → List Message → PlanNo → Type 0
IsPlanNo ship cargo messages (File call fault) = IsUnshown ship cargo 1 messages (File call fault)
IsPlanNo ship cargo messages (Rule call rule) = IsFirstBroken ship cargo messages call rule
IsPlanNo ship cargo messages NoMemory = Unit {0}
