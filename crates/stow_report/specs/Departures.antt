-- The lines of departure files that a check refuses.
use Rattle.std.specs.Prelude.{ℕ, ℤ, pos, true, List, [], ◌∷◌, ◌++◌}
use Rattle.stowage_rules.specs.declared.faults.RuleBroken.{RuleBroken}
use Rattle.baplie.specs.declared.faults.BaplieFault.{BaplieFault}
use Rattle.plan_files.specs.declared.file_faults.FileNo.{FileNo}
use Rattle.plan_files.specs.declared.file_faults.FileNo.TheVariants as file
use Rattle.plan_files.specs.declared.plan_faults.PlanNo.{PlanNo}
use Rattle.plan_files.specs.declared.plan_faults.PlanNo.TheVariants as plan
use Rattle.stow_report.specs.declared.lines.Group.TheVariants as group
use Rattle.stow_report.specs.declared.lines.Field.{Field}
use Rattle.stow_report.specs.declared.lines.Field.TheVariants.{Number, Named}
use Rattle.stow_report.specs.declared.lines.Line.{Line}
use Rattle.stow_report.specs.Refusals.{numbered}
use Rattle.stow_report.specs.Arrivals.{rule_numbers}
use Rattle.stow_report.specs.Verdicts.{file_line}

-- with a field more, at the end
abbrev pub with_field : Field → Line → Line
with_field field line = record { checked = line.checked; group = line.group; number = line.number; fields = line.fields ++ field ∷ [] }

-- as a line in the answer of a check
abbrev pub in_check : Line → Line
in_check line = record { checked = true; group = line.group; number = line.number; fields = line.fields }

-- a departure file that is no bay plan: as any such file, with the call at the end
abbrev pub departure_line : ℕ → BaplieFault → Line
departure_line call fault = with_field (Number (pos call)) (in_check (file_line fault))

abbrev pub of_plan : ℕ → List ℤ → Line
of_plan n numbers = numbered true group.Plan n numbers

-- a fault of a container: the call, the fault's number, and the container's id
abbrev pub of_container : ℕ → ℕ → List ℕ → Line
of_container call n id = with_field (Named id) (of_plan 1 (pos call ∷ pos n ∷ []))

-- the file of a call that shows no plan: the call, the fault's number, and the cell group from 1 or the container's id
abbrev pub shown_line : ℕ → FileNo → Line
shown_line call (file.NoSuchCell g) = of_plan 1 (pos call ∷ pos 1 ∷ pos g ∷ [])
shown_line call (file.Unknown id) = of_container call 2 id
shown_line call (file.Twice id) = of_container call 3 id
shown_line call (file.WrongLength id) = of_container call 4 id
shown_line call (file.CellTaken id) = of_container call 5 id
shown_line call (file.DischargeDiffers id) = of_container call 6 id
shown_line call (file.NotAboard id) = of_container call 7 id
shown_line call (file.MissingContainer id) = of_container call 8 id
shown_line call file.NoMemory = of_plan 1 (pos call ∷ pos 9 ∷ [])

-- the departure of a call that breaks a rule: the call, the rule's number, and its fields
abbrev pub rule_line : ℕ → RuleBroken → Line
rule_line call rule = of_plan 2 (pos call ∷ rule_numbers rule)

-- departure files that are no legal file set
abbrev pub plan_line : PlanNo → Line
plan_line (plan.File call fault) = shown_line call fault
plan_line (plan.Rule call rule) = rule_line call rule
plan_line plan.NoMemory = of_plan 3 []
