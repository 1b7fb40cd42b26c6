-- The text of a cell (SVG 1.1).
use Rattle.std.specs.Prelude.{ℕ, ◌+◌, ◌-◌, ◌/◌, ◌%◌, nat_le, nat_lt, Bool, is_some, codes, List, [], ◌∷◌, ◌++◌, length, take, Option, Some, None, if◌then◌else◌}
use Rattle.std.specs.Fmt.{decimal}
use Rattle.baplie.specs.declared.parts.Facts.{Facts}
use Rattle.stow_data.specs.Digits.{digit}
use Rattle.stow_report.specs.Listings.{length_text}
use Rattle.bay_views.specs.declared.cells.Cell.{Cell}
use Rattle.bay_views.specs.declared.character_sets.CharacterSet.{CharacterSet}
use Rattle.bay_views.specs.Escapes.{escaped_in}
use Rattle.bay_views.specs.PortMarks.{mark_at}
use Rattle.bay_views.specs.Cells.{Shape, Vacant, Filled}

-- markup and words of the document's own, as they are
unfoldable pub raw : List ℕ → List ℕ
raw text = text

abbrev pub when : Bool → List ℕ → List ℕ
when on text = if on then text else []

abbrev pub only_if : Bool → List ℕ → List ℕ
only_if on text = when on (raw text)

-- a text of more than so many bytes as the title of what it stands in
unfoldable pub whole : CharacterSet → ℕ → List ℕ → List ℕ
whole set most text = when (nat_lt most (length text)) (raw (codes "<title>") ++ escaped_in set text ++ raw (codes "</title>"))

-- such a text is cut
unfoldable pub short : CharacterSet → ℕ → List ℕ → List ℕ
short set most text = if nat_lt most (length text) then escaped_in set (take most text) ++ raw (codes "&#8230;") else escaped_in set text

-- tenths of a tonne, rounded
abbrev pub tenths : ℕ → ℕ
tenths kg = kg / 100 + kg % 100 / 50

-- tonnes with one decimal
unfoldable pub tonnes : ℕ → List ℕ
tonnes kg = decimal (tenths kg / 10) ++ raw (codes ".") ++ digit (tenths kg) ∷ []

-- a rectangle up to its class
abbrev pub rect : ℕ → ℕ → ℕ → ℕ → List ℕ
rect left top width height =
    raw (codes "<rect x='") ++ decimal left ++ raw (codes "' y='") ++ decimal top ++ raw (codes "' width='") ++ decimal width ++ raw (codes "' height='") ++ decimal height ++ raw (codes "' class='")

-- a rectangle in the colour of a port; of fourteen ports the second seven have stripes over it
unfoldable pub swatch : ℕ → ℕ → ℕ → ℕ → ℕ → List ℕ
swatch left top width height port =
    rect left top width height ++ raw (codes "p") ++ decimal (port % 7) ++ raw (codes "'/>") ++ when (nat_le 7 (port % 14)) (rect left top width height ++ raw (codes "z'/>"))

-- a text up to what it says
abbrev pub label : ℕ → ℕ → List ℕ → List ℕ
label left base class = raw (codes "<text x='") ++ decimal left ++ raw (codes "' y='") ++ decimal base ++ raw (codes "' class='") ++ raw class ++ raw (codes "'>")

-- ## Of a container

unfoldable pub classes : Facts → List ℕ
classes f = only_if f.empty (codes "e ") ++ only_if f.reefer (codes "r ") ++ only_if (is_some f.class) (codes "d ")

abbrev pub class_text : CharacterSet → Option (List ℕ) → List ℕ
class_text set None = []
class_text set (Some class) = escaped_in set class

abbrev pub weight : Facts → List ℕ
weight f = raw (codes " ") ++ decimal f.kg ++ raw (codes " kg")

abbrev pub told : CharacterSet → Facts → List ℕ
told set f = only_if f.reefer (codes ", reefer") ++ only_if f.empty (codes ", empty") ++ only_if (is_some f.class) (codes ", class ") ++ class_text set f.class

-- what hovering shows: the cell, the id, the length, the port of discharge, the kilograms and what else is told
unfoldable pub title : CharacterSet → Cell → Facts → List ℕ
title set cell f = cell.number ++ raw (codes " ") ++ escaped_in set f.id ++ length_text f.long ++ escaped_in set f.dest ++ weight f ++ told set f

-- the mark of the port, in the middle of its field
unfoldable pub letters : CharacterSet → ℕ → ℕ → List ℕ → List ℕ
letters set middle base mark = label middle base (codes "t") ++ escaped_in set mark ++ raw (codes "</text>")

-- the class of dangerous goods, cut where it is long
abbrev pub short_class : CharacterSet → Option (List ℕ) → List ℕ
short_class set None = []
short_class set (Some class) = short set 4 class

-- R for a reefer, E for an empty container, and the class of dangerous goods
unfoldable pub marks : CharacterSet → Cell → Facts → List ℕ
marks set cell f = label (cell.left + 2) (cell.top + 9) (codes "m") ++ only_if f.reefer (codes "R ") ++ only_if f.empty (codes "E ") ++ short_class set f.class ++ raw (codes "</text>")

-- the weight class: whole tonnes, rounded
abbrev pub weight_class : ℕ → ℕ
weight_class kg = (kg + 500) / 1000

unfoldable pub weight_mark : Cell → ℕ → List ℕ
weight_mark cell kg = label (cell.left + cell.width - 2) (cell.top + 9) (codes "g") ++ decimal (weight_class kg) ++ raw (codes "</text>")

-- what is drawn in a cell: the colour and the mark of the port, what is marked of the container, and its weight class
unfoldable pub inside : CharacterSet → Cell → ℕ → List ℕ → Facts → List ℕ
inside set cell port mark f =
    swatch cell.left cell.top cell.width 24 port ++ letters set (cell.left + cell.width / 2) (cell.top + 20) mark ++ marks set cell f ++ weight_mark cell f.kg

abbrev pub filled_text : CharacterSet → Cell → ℕ → List ℕ → Facts → List ℕ
filled_text set cell port mark f =
    raw (codes "<g class='") ++ classes f ++ raw (codes "'><title>") ++ title set cell f ++ raw (codes "</title>") ++ inside set cell port mark f ++ raw (codes "</g>\n")

abbrev pub vacant_text : Cell → List ℕ
vacant_text cell = rect cell.left cell.top cell.width 24 ++ raw (codes "v'><title>") ++ cell.number ++ raw (codes " empty</title></rect>\n")

abbrev pub shape_text : CharacterSet → List (List ℕ) → Shape → List ℕ
shape_text set marks (Vacant cell) = vacant_text cell
shape_text set marks (Filled cell port f) = filled_text set cell port (mark_at marks port) f
