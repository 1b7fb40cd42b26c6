-- What a certificate and the departure files of a voyage say, and the first part of it that doesn't hold.
use Rattle.std.specs.Prelude.{◌≡◌, ◌≢◌, ◌<◌, ◌≤◌, ℕ, ◌+◌, min, Bool, true, false, List, count_by, Option, Some, None, IsSome}
use Rattle.stow_data.specs.Shipment.{most_cost}
use Rattle.zero_one_rows.specs.Variables.{Voyage}
use Rattle.certificate.specs.declared.tree.Head.{Head}
use Rattle.certificate.specs.declared.tree.Outcome.{Outcome}
use Rattle.certificate.specs.declared.tree.Outcome.TheVariants.{Optimal, Gap, NoPlan, Undecided}
use Rattle.certificate.specs.declared.tree.Record.{Record}
use Rattle.certificate.specs.declared.tree.End.{End}
use Rattle.certificate.specs.declared.tree.End.TheVariants.{Leaf, Left, Branch}
use Rattle.certificate.specs.declared.refusals.BoundNo.{BoundNo}
use Rattle.bound_checker.specs.Entries.{ProvesBound}
use Rattle.bound_checker.specs.Faults.{first_fault}
use Rattle.model_bridge.specs.Laws.{IsVoyageBound, HasNoVoyage}
use Rattle.stow_report.specs.declared.numbers.NumbersNo.{NumbersNo}
use Rattle.stow_report.specs.declared.numbers.NumbersNo.TheVariants as numbers
use Rattle.voyage_files.specs.declared.refusals.JudgeNo.{JudgeNo}
use Rattle.voyage_files.specs.declared.refusals.JudgeNo.TheVariants.{Text, Plan, Bound, Numbers, NoMemory}
use Rattle.voyage_files.specs.Files.{AreIllegal, FilesTake, IsFirstFaulty}

abbrev pub was_handled : End → Bool
was_handled Leaf = true
was_handled Left = false
was_handled (Branch x) = true

-- the number of records that aren't left open
abbrev pub handled : List Record → ℕ
handled tree = count_by (λ r. was_handled r.end) tree

-- The outcome fits the cost and the bound: the plan is as good as the bound, or not quite; there is no legal voyage, since the bound is above the cost of any least lifts; or the bound says no such thing
abbrev pub Fits : Voyage → Outcome → Option ℕ → ℕ → Type 0
Fits m Optimal (Some cost) bound = bound ≡ cost
Fits m Gap (Some cost) bound = bound < cost
Fits m NoPlan None bound = bound ≡ most_cost m.cargo + 1
Fits m Undecided None bound = bound ≤ most_cost m.cargo
Fits m Optimal None bound = ⊥
Fits m Gap None bound = ⊥
Fits m NoPlan (Some cost) bound = ⊥
Fits m Undecided (Some cost) bound = ⊥

-- all that the certificate says holds: of the departure files, where it says a cost; of the tree; and of the numbers
pub record Holds (m : Voyage) (head : Head) (tree : List Record) (texts : List (List ℕ)) : Type 0 where
  pub files : FilesTake m.ship m.cargo texts head.rehandles head.rehandles
  pub proves : ProvesBound m tree head.bound
  pub nodes : head.nodes ≡ handled tree
  pub fits : Fits m head.outcome head.rehandles head.bound

-- what then holds of all legal voyages: none costs less than the bound, and where the outcome says so there is none
pub record Bounds (m : Voyage) (head : Head) : Type 0 where
  pub bounds : IsVoyageBound m head.bound
  pub none : head.outcome ≡ NoPlan → HasNoVoyage m

-- the bound at which the tree is checked: one above the cost of any least lifts already says that there is no legal voyage
abbrev pub checked : Voyage → ℕ → ℕ
checked m bound = min bound (most_cost m.cargo + 1)

-- why numbers are refused, where the files have this cost: each comes where those before it don't
abbrev pub IsNumbersNo : Voyage → Head → List Record → Option ℕ → NumbersNo → Type 0
IsNumbersNo m head tree found (numbers.Rehandles said n) = (head.rehandles ≡ Some said) × (found ≡ Some n) × (said ≢ n)
IsNumbersNo m head tree found (numbers.Nodes said n) = (found ≡ head.rehandles) × (said ≡ head.nodes) × (n ≡ handled tree) × (said ≢ n)
IsNumbersNo m head tree found numbers.Outcome = (found ≡ head.rehandles) × (head.nodes ≡ handled tree) × (Fits m head.outcome head.rehandles head.bound → ⊥)

-- the tree has this first fault, where the departure files are a legal file set or aren't looked at
pub record RefusesTree (m : Voyage) (head : Head) (tree : List Record) (texts : List (List ℕ)) (cause : BoundNo) : Type 0 where
  pub found : Option ℕ
  pub files : FilesTake m.ship m.cargo texts head.rehandles found
  pub first : first_fault m tree (checked m head.bound) ≡ Some cause

-- a number is refused, where the tree proves the bound too
pub record RefusesNumbers (m : Voyage) (head : Head) (tree : List Record) (texts : List (List ℕ)) (cause : NumbersNo) : Type 0 where
  pub found : Option ℕ
  pub files : FilesTake m.ship m.cargo texts head.rehandles found
  pub proves : ProvesBound m tree (checked m head.bound)
  pub why : IsNumbersNo m head tree found cause

-- the first part that doesn't hold: the departure files, each by itself and then as a set, where the certificate says a cost; then the tree; then the numbers
abbrev pub IsNo : Voyage → Head → List Record → List (List ℕ) → JudgeNo → Type 0
IsNo m head tree texts (Text call fault) = IsSome head.rehandles × IsFirstFaulty 1 texts call fault
IsNo m head tree texts (Plan cause) = IsSome head.rehandles × AreIllegal m.ship m.cargo texts cause
IsNo m head tree texts (Bound cause) = RefusesTree m head tree texts cause
IsNo m head tree texts (Numbers cause) = RefusesNumbers m head tree texts cause
IsNo m head tree texts NoMemory = Unit {0}

-- ## Parts of the answer

-- why a tree is refused
abbrev pub IsTreeNo : Voyage → List Record → ℕ → JudgeNo → Type 0
IsTreeNo m tree bound (Bound cause) = first_fault m tree bound ≡ Some cause
IsTreeNo m tree bound NoMemory = Unit {0}
IsTreeNo m tree bound _ = ⊥

-- the cost that a certificate says and the one that is found differ
abbrev pub AreOther : Option ℕ → Option ℕ → NumbersNo → Type 0
AreOther (Some a) (Some b) (numbers.Rehandles said found) = (a ≡ said) × (b ≡ found) × (said ≢ found)
AreOther _ _ _ = ⊥

-- the numbers are those that are found, and the outcome fits
pub record NumbersHold (m : Voyage) (head : Head) (tree : List Record) (found : Option ℕ) : Type 0 where
  pub cost : found ≡ head.rehandles
  pub nodes : head.nodes ≡ handled tree
  pub fits : Fits m head.outcome head.rehandles head.bound
