-- What is drawn for each cell group.
use Rattle.std.specs.Prelude.{ℕ, ◌+◌, ◌%◌, ◌==◌, Bool, true, false, List, map, Option, Some, None, if◌then◌else◌}
use Rattle.baplie.specs.declared.parts.Facts.{Facts}
use Rattle.baplie.specs.declared.parts.CellGroup.{CellGroup}
use Rattle.baplie.specs.Texts.{cell_digits}
use Rattle.bay_views.specs.declared.cells.Cell.{Cell}
use Rattle.bay_views.specs.declared.sheets.Sheet.{Sheet}
use Rattle.bay_views.specs.Frames.{left_of, top_of}
use Rattle.bay_views.specs.Bays.{home_of}
use Rattle.bay_views.specs.Sheets.{place_of, bay_left, bay_top}
use Rattle.bay_views.specs.Ports.{number_of}

-- a bay of 40 foot has cells 56 wide; the fore bay of 20 foot has the left half of each, the aft one the right half
abbrev pub width_of : ℕ → ℕ
width_of bay = if bay % 2 == 0 then 56 else 28

abbrev pub half_of : ℕ → ℕ → ℕ
half_of home bay = if bay == home + 1 then 28 else 0

abbrev pub cell_at : Sheet → ℕ → CellGroup → Cell
cell_at s home g = record {
  number = cell_digits g.bay g.row g.tier;
  left = bay_left s (place_of s home) + left_of s.frame g.row + half_of home g.bay;
  top = bay_top s (place_of s home) + top_of s.frame g.tier;
  width = width_of g.bay;
}

abbrev pub cell_of : Sheet → CellGroup → Cell
cell_of s g = cell_at s (home_of s.long_bays g.bay) g

-- An empty cell that is named, or a container with the number of its port.
pub data Shape : Type 0 where
  Vacant : Cell → Shape
  Filled : Cell → ℕ → Facts → Shape

abbrev pub shape_in : Cell → List (List ℕ) → Option Facts → Shape
shape_in cell ports None = Vacant cell
shape_in cell ports (Some f) = Filled cell (number_of ports f.dest) f

abbrev pub shape_of : Sheet → List (List ℕ) → CellGroup → Shape
shape_of s ports g = shape_in (cell_of s g) ports g.facts

-- a shape for each cell group, in their order
abbrev pub shapes : Sheet → List (List ℕ) → List CellGroup → List Shape
shapes s ports groups = map (shape_of s ports) groups

abbrev pub is_filled : Shape → Bool
is_filled (Vacant cell) = false
is_filled (Filled cell port f) = true
