-- The least cause at a segment of a cell group by what it is read as. No public clause cites this module.
use Rattle.std.specs.Prelude.{Bool, ◌&&◌, ◌||◌, not, codes, Option, Some, None, is_none, if◌then◌else◌}
use Rattle.edifact_segments.specs.declared.segments.Segment.{Segment}
use Rattle.baplie.specs.declared.causes.Cause.{Cause}
use Rattle.baplie.specs.declared.causes.Cause.TheVariants.{BadCell, AgencyLeftOut, TwoContainers, BreakbulkLeftOut, NoId, NameTooLong, LengthLeftOut, UnitLeftOut, BadWeight, NoWeightOrPort}
use Rattle.baplie.specs.declared.causes.Prior.{Prior}
use Rattle.baplie.specs.Texts.{weight_of}
use Rattle.baplie.specs.Segments.{component, is_empty_text, same_text}
use Rattle.baplie.specs.Groups.{shows, is_long, is_odd_type}
use Rattle.baplie.specs.declared.roles.Role.{Role}
use Rattle.baplie.specs.declared.roles.Role.TheVariants.{Container, Breakbulk, Port, Weight, Danger}

-- what is wrong with the cell
abbrev pub cell_cause : Prior → Segment → Option Cause
cell_cause p s = if shows p s BadCell then Some BadCell else (if shows p s AgencyLeftOut then Some AgencyLeftOut else None)

-- what the group lacks
abbrev pub lack_cause : Prior → Option Cause
lack_cause p = if p.opens && p.lacks then Some NoWeightOrPort else None

abbrev pub container_cause : Segment → Option Cause
container_cause s =
    if is_empty_text (component s 2 1) then Some NoId else (if is_long (component s 2 1) || is_long (component s 3 1) then Some NameTooLong else (if is_odd_type (component s 3 1) then Some LengthLeftOut else None))

abbrev pub weight_cause : Segment → Option Cause
weight_cause s =
    if not (same_text (component s 3 1) (codes "KGM")) then Some UnitLeftOut else (if is_none (weight_of (component s 3 2)) then Some BadWeight else None)

-- a first name, where none of its kind stands before it
abbrev pub name_cause : Bool → Segment → Option Cause
name_cause before s = if before then None else (if is_long (component s 2 1) then Some NameTooLong else None)

abbrev pub cause_as : Option Role → Prior → Segment → Option Cause
cause_as (Some Container) p s = if p.container then Some TwoContainers else container_cause s
cause_as (Some Breakbulk) p s = Some BreakbulkLeftOut
cause_as (Some Port) p s = name_cause p.port s
cause_as (Some Danger) p s = name_cause p.danger s
cause_as (Some Weight) p s = weight_cause s
cause_as other p s = None
