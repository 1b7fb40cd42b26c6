-- The segments of a cell group that are read.
use Rattle.std.specs.Prelude.{◌≡◌, Bool, true, false, Option, Some}
use Rattle.edifact_segments.specs.declared.segments.Segment.{Segment}
use Rattle.baplie.specs.Segments.{closes, opens, names_port, is_container, is_breakbulk, is_verified, is_unverified, weighs, is_cooled, is_danger}
use Rattle.baplie.specs.declared.roles.Role.{Role}
use Rattle.baplie.specs.declared.roles.Role.TheVariants.{Opening, Closing, Container, Breakbulk, Port, Verified, Unverified, Weight, Cooled, Danger}

abbrev pub has_role : Role → Segment → Bool
has_role Opening s = opens s
has_role Closing s = closes s
has_role Container s = is_container s
has_role Breakbulk s = is_breakbulk s
has_role Port s = names_port s
has_role Verified s = is_verified s
has_role Unverified s = is_unverified s
has_role Weight s = weighs s
has_role Cooled s = is_cooled s
has_role Danger s = is_danger s

-- ## What may be a cause in a cell group

abbrev pub as_container : Option Role → Bool
as_container (Some Container) = true
as_container other = false

abbrev pub as_breakbulk : Option Role → Bool
as_breakbulk (Some Breakbulk) = true
as_breakbulk other = false

abbrev pub as_port : Option Role → Bool
as_port (Some Port) = true
as_port other = false

abbrev pub as_weight : Option Role → Bool
as_weight (Some Weight) = true
as_weight other = false

abbrev pub as_danger : Option Role → Bool
as_danger (Some Danger) = true
as_danger other = false

-- Of a container, breakbulk, a port, a weight and dangerous goods, the segment is this one alone.
pub record IsReadAs (s : Segment) (role : Option Role) : Type 0 where
  pub container : is_container s ≡ as_container role
  pub breakbulk : is_breakbulk s ≡ as_breakbulk role
  pub port : names_port s ≡ as_port role
  pub weight : weighs s ≡ as_weight role
  pub danger : is_danger s ≡ as_danger role
