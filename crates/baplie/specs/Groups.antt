-- Cell groups (SMDG BAPLIE 2.2): what each tells, and the causes of faults in it.
use Rattle.std.specs.Prelude.{ℕ, ◌%◌, Bool, false, ◌&&◌, ◌||◌, ◌==◌, not, nat_lt, List, [], ◌∷◌, length, codes, find, Option, Some, None, is_none, unwrap_or, if◌then◌else◌}
use Rattle.std.specs.List.{list_any}
use Rattle.std.specs.Option.{option_or}
use Rattle.edifact_segments.specs.declared.segments.Segment.{Segment}
use Rattle.stow_data.specs.declared.geometry.Length.{Length}
use Rattle.stow_data.specs.declared.geometry.Length.TheVariants.{Twenty, Forty}
use Rattle.baplie.specs.declared.parts.Facts.{Facts}
use Rattle.baplie.specs.declared.parts.CellGroup.{CellGroup}
use Rattle.baplie.specs.declared.causes.Cause.{Cause}
use Rattle.baplie.specs.declared.causes.Cause.TheVariants.{NotBaplie, ManyMessages, NoUnt, BadCell, AgencyLeftOut, TwoContainers, BreakbulkLeftOut, NoId, NameTooLong, LengthLeftOut, UnitLeftOut, BadWeight, NoWeightOrPort, BadCount, CountWrong, ReferenceWrong}
use Rattle.baplie.specs.declared.causes.Prior.{Prior}
use Rattle.stow_data.specs.Types.{length_of_type}
use Rattle.baplie.specs.Texts.{cell_of, weight_of}
use Rattle.baplie.specs.Segments.{element, component, is_one, is_empty_text, same_text, is_container, is_breakbulk, names_port, weighs, is_verified, is_unverified, is_cooled, is_danger}

-- ## Causes

-- the group has a container and lacks a weight or a port of discharge
abbrev pub lacks : List Segment → Bool
lacks group = list_any is_container group && not (list_any weighs group && list_any names_port group)

-- what is known behind these first segments of a group
abbrev pub prior : List Segment → List Segment → Prior
prior group before = record { opens = length before == 0; lacks = lacks group; container = list_any is_container before; port = list_any names_port before; danger = list_any is_danger before }

-- more than 35 bytes
abbrev pub is_long : List ℕ → Bool
is_long text = nat_lt 35 (length text)

-- a container's number or type, the group's first port of discharge, or the class of its first dangerous goods is too long
abbrev pub has_long_name : Prior → Segment → Bool
has_long_name p s =
    (is_container s && (is_long (component s 2 1) || is_long (component s 3 1))) || (((names_port s && not p.port) || (is_danger s && not p.danger)) && is_long (component s 2 1))

-- a type that is of neither 20 nor 40 foot
abbrev pub is_odd_type : List ℕ → Bool
is_odd_type text = not (is_empty_text text) && is_none (length_of_type text)

-- the agency of a cell's numbering: 5 is ISO, and none means 5
abbrev pub is_iso : List ℕ → Bool
is_iso text = is_empty_text text || same_text text (codes "5")

-- Whether a segment of a group is a cause of this kind.
abbrev pub shows : Prior → Segment → Cause → Bool
shows p s BadCell = p.opens && is_none (cell_of (component s 2 1))
shows p s AgencyLeftOut = p.opens && not (is_iso (component s 2 3))
shows p s TwoContainers = is_container s && p.container
shows p s BreakbulkLeftOut = is_breakbulk s
shows p s NoId = is_container s && is_empty_text (component s 2 1)
shows p s NameTooLong = has_long_name p s
shows p s LengthLeftOut = is_container s && is_odd_type (component s 3 1)
shows p s UnitLeftOut = weighs s && not (same_text (component s 3 1) (codes "KGM"))
shows p s BadWeight = weighs s && is_none (weight_of (component s 3 2))
shows p s NoWeightOrPort = p.opens && p.lacks
shows p s NotBaplie = false
shows p s ManyMessages = false
shows p s NoUnt = false
shows p s BadCount = false
shows p s (CountWrong said found) = false
shows p s ReferenceWrong = false

-- ## What a group tells

-- a name that isn't too long; in a group without a fault each is
abbrev pub name_of : List ℕ → List ℕ
name_of text = if is_long text then [] else text

abbrev pub text_in : Option Segment → ℕ → ℕ → List ℕ
text_in None n k = []
text_in (Some s) n k = component s n k

-- the cell of the LOC+147; in a group without a fault it is one
abbrev pub cell_in : List Segment → ℕ × ℕ × ℕ
cell_in [] = (0, 0, 0)
cell_in (s ∷ group) = unwrap_or (cell_of (component s 2 1)) (0, 0, 0)

-- an odd bay is one of 20 foot, an even bay one of 40 foot
abbrev pub long_of_bay : ℕ → Length
long_of_bay bay = if bay % 2 == 1 then Twenty else Forty

-- the first MEA+VGM gives the weight, else the first MEA+WT
abbrev pub weight_in : List Segment → ℕ
weight_in group = unwrap_or (weight_of (text_in (option_or (find is_verified group) (find is_unverified group)) 3 2)) 0

-- the first DGS gives the class; an empty one gives none
abbrev pub class_from : List ℕ → Option (List ℕ)
class_from [] = None
class_from (b ∷ text) = Some (b ∷ text)

abbrev pub class_in : List Segment → Option (List ℕ)
class_in group = class_from (name_of (text_in (find is_danger group) 2 1))

-- the facts of the container that this segment names
abbrev pub facts_at : List Segment → Segment → Facts
facts_at group s = record {
  id = name_of (component s 2 1);
  iso = name_of (component s 3 1);
  long = unwrap_or (length_of_type (component s 3 1)) (long_of_bay (cell_in group).0);
  empty = is_one (element s 6) (codes "4");
  kg = weight_in group;
  reefer = list_any is_cooled group;
  class = class_in group;
  dest = name_of (text_in (find names_port group) 2 1);
}

abbrev pub facts_from : List Segment → Option Segment → Option Facts
facts_from group None = None
facts_from group (Some s) = Some (facts_at group s)

-- a group and what it tells: a group without a container is of an empty cell
abbrev pub cell_group : List Segment → CellGroup
cell_group group = record { bay = (cell_in group).0; row = (cell_in group).1; tier = (cell_in group).2; facts = facts_from group (find is_container group); segments = group }
