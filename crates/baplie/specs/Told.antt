-- What a cell group of a message tells: each part of it stands in a segment of the group (SMDG BAPLIE 2.2).
use Rattle.std.specs.Prelude.{◌≡◌, ◌⊎◌, true, false, ℕ, List, ◌∷◌, find, Some, None}
use Rattle.std.specs.Option.{option_or}
use Rattle.edifact_segments.specs.declared.segments.Segment.{Segment}
use Rattle.baplie.specs.declared.parts.Facts.{Facts}
use Rattle.baplie.specs.declared.parts.CellGroup.{CellGroup}
use Rattle.stow_data.specs.Types.{length_of_type}
use Rattle.baplie.specs.Texts.{cell_of, weight_of}
use Rattle.baplie.specs.Segments.{component, is_empty_text, is_container, names_port, is_verified, is_unverified, is_danger}
use Rattle.baplie.specs.Groups.{text_in, long_of_bay, class_from}

-- The facts are those of the container that this segment of the group names, in a bay with this number.
pub record AreTold (group : List Segment) (bay : ℕ) (container : Segment) (f : Facts) : Type 0 where
  pub id : f.id ≡ component container 2 1
  pub named : is_empty_text f.id ≡ false
  pub iso : f.iso ≡ component container 3 1
  pub long : (length_of_type f.iso ≡ Some f.long) ⊎ ((is_empty_text f.iso ≡ true) × (f.long ≡ long_of_bay bay))
  pub weigher : Segment
  pub is_weighed : option_or (find is_verified group) (find is_unverified group) ≡ Some weigher
  pub kg : weight_of (component weigher 3 2) ≡ Some f.kg
  pub port : Segment
  pub is_bound : find names_port group ≡ Some port
  pub dest : f.dest ≡ component port 2 1
  pub class : f.class ≡ class_from (text_in (find is_danger group) 2 1)

-- The cell is that of the group's LOC+147, and its facts, if any, are those of the first container.
pub record IsTold (group : List Segment) (cell : CellGroup) : Type 0 where
  pub first : Segment
  pub others : List Segment
  pub begins : group ≡ first ∷ others
  pub place : cell_of (component first 2 1) ≡ Some (cell.bay, cell.row, cell.tier)
  pub empty : find is_container group ≡ None → cell.facts ≡ None
  pub facts : (container : Segment) → find is_container group ≡ Some container → (f : Facts) × (cell.facts ≡ Some f) × AreTold group cell.bay container f
