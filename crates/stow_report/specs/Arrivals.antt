-- The line of a refused bay plan of the ship as it comes in.
use Rattle.std.specs.Prelude.{ℤ, pos, false, List, [], ◌∷◌}
use Rattle.stowage_rules.specs.declared.faults.RuleBroken.{RuleBroken}
use Rattle.stowage_rules.specs.declared.faults.RuleBroken.TheVariants as rule
use Rattle.arrival_plan.specs.declared.faults.ArrivalFault.{ArrivalFault}
use Rattle.arrival_plan.specs.declared.faults.ArrivalFault.TheVariants as arrival
use Rattle.stow_report.specs.declared.lines.Group.TheVariants.{Arrival}
use Rattle.stow_report.specs.declared.lines.Line.{Line}
use Rattle.stow_report.specs.Refusals.{numbered, keyed}
use Rattle.stow_report.specs.Inputs.{limit_line}

-- a broken rule: its number, and its fields in their order
abbrev pub rule_numbers : RuleBroken → List ℤ
rule_numbers (rule.Support half) = pos 1 ∷ pos half ∷ []
rule_numbers (rule.TwentyOnForty half) = pos 2 ∷ pos half ∷ []
rule_numbers (rule.NoPlug place) = pos 3 ∷ pos place ∷ []
rule_numbers (rule.StackWeight stack kg) = pos 4 ∷ pos stack ∷ pos kg ∷ []
rule_numbers (rule.Separation index first second) = pos 5 ∷ pos index ∷ pos first ∷ pos second ∷ []

-- the cell group from 1, the id, or the rule that is broken
abbrev pub arrival_line : ArrivalFault → Line
arrival_line (arrival.NoSuchCell group) = numbered false Arrival 1 (pos group ∷ [])
arrival_line (arrival.WrongLength group) = numbered false Arrival 2 (pos group ∷ [])
arrival_line (arrival.Twice id) = keyed false Arrival 3 id []
arrival_line (arrival.NotInRotation group) = numbered false Arrival 4 (pos group ∷ [])
arrival_line (arrival.CellTaken group) = numbered false Arrival 5 (pos group ∷ [])
arrival_line (arrival.Rule broken) = numbered false Arrival 6 (rule_numbers broken)
arrival_line (arrival.TooLarge limit n) = limit_line limit n
arrival_line arrival.NoMemory = numbered false Arrival 8 []
