-- The line of a refusal.
use Rattle.plan_files.specs.declared.plan_faults.PlanNo.TheVariants as plan
use Rattle.stow_report.specs.declared.lines.Line.{Line}
use Rattle.stow_report.specs.Departures.{departure_line, plan_line}
use Rattle.stow_report.specs.Numbers.{numbers_line}
use Rattle.stow_report.specs.Verdicts.{bound_line}
use Rattle.voyage_files.specs.declared.refusals.JudgeNo.{JudgeNo}
use Rattle.voyage_files.specs.declared.refusals.JudgeNo.TheVariants.{Text, Plan, Bound, Numbers, NoMemory}

-- each by its own group
abbrev pub line_of : JudgeNo → Line
line_of (Text call fault) = departure_line call fault
line_of (Plan cause) = plan_line cause
line_of (Bound cause) = bound_line cause
line_of (Numbers cause) = numbers_line cause
line_of NoMemory = plan_line plan.NoMemory
