-- The lines of the faults of a bay plan.
use Rattle.std.specs.Prelude.{ℕ, ℤ, pos, false, List, [], ◌∷◌}
use Rattle.edifact_segments.specs.declared.faults.SegFault.{SegFault}
use Rattle.edifact_segments.specs.declared.faults.SegFault.TheVariants.{NoHeader, BadUna, Unterminated, ControlByte, BadTag, NoTrailer, Trailing, NoMemory}
use Rattle.baplie.specs.declared.causes.Cause.{Cause}
use Rattle.baplie.specs.declared.causes.Cause.TheVariants.{CountWrong}
use Rattle.baplie.specs.Faults.{number}
use Rattle.stow_report.specs.declared.lines.Group.TheVariants.{Edifact, Baplie}
use Rattle.stow_report.specs.declared.lines.Line.{Line}
use Rattle.stow_report.specs.Refusals.{numbered}

-- the place of a byte or the number of a segment, where the fault has one
abbrev pub interchange_line : SegFault → Line
interchange_line NoHeader = numbered false Edifact 1 []
interchange_line BadUna = numbered false Edifact 2 []
interchange_line (Unterminated at) = numbered false Edifact 3 (pos at ∷ [])
interchange_line (ControlByte at) = numbered false Edifact 4 (pos at ∷ [])
interchange_line (BadTag segment) = numbered false Edifact 5 (pos segment ∷ [])
interchange_line (NoTrailer segments) = numbered false Edifact 6 (pos segments ∷ [])
interchange_line (Trailing at) = numbered false Edifact 7 (pos at ∷ [])
interchange_line NoMemory = numbered false Edifact 8 []

-- what a cause tells
abbrev pub told : Cause → List ℤ
told (CountWrong said found) = pos said ∷ pos found ∷ []
told _ = []

-- the cause's number, then the segment's, then what the cause tells
abbrev pub message_line : ℕ → Cause → Line
message_line segment cause = numbered false Baplie (number cause) (pos segment ∷ told cause)
