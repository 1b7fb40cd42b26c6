-- The picture of a crane list (SVG 1.1): cranes across, rounds down.
use Rattle.std.specs.Prelude.{ℕ, ◌+◌, ◌*◌, nat_lt, max, codes, List, ◌++◌, length, take, flat_map, count_by, if◌then◌else◌}
use Rattle.std.specs.Fmt.{decimal}
use Rattle.baplie.specs.Texts.{cell_digits}
use Rattle.stow_report.specs.declared.crane_lists.CraneMove.{CraneMove}
use Rattle.stow_report.specs.declared.crane_lists.CraneMove.TheVariants.{Lift, Put, Off, On}
use Rattle.stow_report.specs.declared.crane_lists.CraneReport.{CraneReport}
use Rattle.bay_views.specs.Escapes.{escaped, escaped_text}
use Rattle.bay_views.specs.Marks.{raw}
use Rattle.bay_views.specs.Upto.{upto}
use Rattle.crane_pictures.specs.declared.purposes.Purpose.{Purpose}
use Rattle.crane_pictures.specs.declared.purposes.Purpose.TheVariants.{Discharge, Load, MoveAside, PutBack, CoverOff, CoverOn}
use Rattle.crane_pictures.specs.declared.shapes.Shape.{Shape}
use Rattle.crane_pictures.specs.Shapes.{has_purpose, shapes_of}

-- ## A move

-- the letter that marks what a move is for, which names its colour too
abbrev pub letter : Purpose → List ℕ
letter Discharge = codes "D"
letter Load = codes "L"
letter MoveAside = codes "A"
letter PutBack = codes "B"
letter CoverOff = codes "O"
letter CoverOn = codes "C"

abbrev pub words : Purpose → List ℕ
words Discharge = codes "discharged"
words Load = codes "loaded"
words MoveAside = codes "lifted to reach others"
words PutBack = codes "put back"
words CoverOff = codes "cover taken off"
words CoverOn = codes "cover put on"

-- the number of a container, cut where it has more than thirteen bytes
unfoldable pub short : List ℕ → List ℕ
short id = if nat_lt 13 (length id) then escaped (take 13 id) ++ raw (codes "&#8230;") else escaped id

-- that number, or that of a cover
abbrev pub named : CraneMove → List ℕ
named (Lift cell id) = short id
named (Put cell id) = short id
named (Off cover) = raw (codes "cover ") ++ decimal cover
named (On cover) = raw (codes "cover ") ++ decimal cover

-- the same in full
abbrev pub told : CraneMove → List ℕ
told (Lift cell id) = escaped id
told (Put cell id) = escaped id
told (Off cover) = decimal cover
told (On cover) = decimal cover

abbrev pub place : CraneMove → List ℕ
place (Lift cell id) = raw (codes "from ") ++ cell_digits cell.0 cell.1 cell.2
place (Put cell id) = raw (codes "to ") ++ cell_digits cell.0 cell.1 cell.2
place (Off cover) = raw (codes "off")
place (On cover) = raw (codes "on")

-- where the shape of a crane's move in a round stands, in pixels; both count from 1
unfoldable pub shape_spot : ℕ → ℕ → List ℕ
shape_spot crane round = raw (codes "<g transform='translate(") ++ decimal (156 * crane) ++ raw (codes " ") ++ decimal (38 * round)

unfoldable pub shape_front : Shape → List ℕ
shape_front s = shape_spot s.crane s.round ++ raw (codes ")' class='") ++ raw (letter s.purpose)

unfoldable pub turn : ℕ → ℕ → List ℕ
turn round crane = raw (codes "'><title>Round ") ++ decimal round ++ raw (codes ", crane ") ++ decimal crane ++ raw (codes ": ")

-- what hovering shows
unfoldable pub shape_title : Shape → List ℕ
shape_title s = turn s.round s.crane ++ told s.step

unfoldable pub shape_box : Shape → List ℕ
shape_box s = raw (codes " ") ++ raw (words s.purpose) ++ raw (codes "</title><rect width='148' height='34'/><text x='14' y='23' class='m'>") ++ raw (letter s.purpose)

unfoldable pub shape_label : Shape → List ℕ
shape_label s = raw (codes "</text><text x='30' y='15' class='i'>") ++ named s.step ++ raw (codes "</text><text x='30' y='29'>") ++ place s.step ++ raw (codes "</text></g>\n")

-- a shape: its place, title, colour and letter, its container or cover, and the cell
abbrev pub shape_text : Shape → List ℕ
shape_text s = shape_front s ++ shape_title s ++ shape_box s ++ shape_label s

abbrev pub body : List Shape → List ℕ
body shapes = flat_map shape_text shapes

-- ## The head

abbrev pub width : ℕ → ℕ
width cranes = max 640 (156 * cranes + 84)

abbrev pub height : ℕ → ℕ
height rounds = 38 * rounds + 160

-- the line that each of these pictures begins with
abbrev pub picture_mark : List ℕ
picture_mark = codes "<!-- Cranes. Written by stow-view, which writes it anew. -->\n"

unfoldable pub opening : ℕ → ℕ → List ℕ
opening w h = raw picture_mark ++ raw (codes "<svg xmlns='http://www.w3.org/2000/svg' width='") ++ decimal w ++ raw (codes "' height='") ++ decimal h

unfoldable pub view_box : ℕ → ℕ → List ℕ
view_box w h = raw (codes "' viewBox='0 0 ") ++ decimal w ++ raw (codes " ") ++ decimal h ++ raw (codes "'>\n")

abbrev pub texts : List ℕ
texts = codes "<style>text{font:11px sans-serif}.h{font-weight:bold;font-size:15px}.i{font-weight:bold}.q{font-weight:bold;text-anchor:middle}.n{text-anchor:end;fill:#444}.m{font-weight:bold;font-size:14px;text-anchor:middle}rect{stroke:#444;stroke-width:.7}.k{fill:#f4f4f4;stroke:none}\n"

-- six colours that differ for colour-blind readers too (Okabe and Ito 2008), light enough for black letters
abbrev pub colours : List ℕ
colours = codes ".D rect{fill:#e69f00}.L rect{fill:#56b4e9}.A rect{fill:#f0e442}.B rect{fill:#e0a3c6}.O rect{fill:#fff;stroke-dasharray:4 2}.C rect{fill:#ccc}</style>\n"

unfoldable pub named_list : List ℕ → List ℕ
named_list name = raw (codes "<text x='14' y='24' class='h'>Work of the cranes: ") ++ escaped_text name ++ raw (codes "</text>\n")

unfoldable pub totals : ℕ → ℕ → ℕ → List ℕ
totals cranes moves rounds = raw (codes "<text x='14' y='44'>Cranes: ") ++ decimal cranes ++ raw (codes ". Moves: ") ++ decimal moves ++ raw (codes ". Rounds: ") ++ decimal rounds

unfoldable pub least_line : ℕ → List ℕ
least_line n = raw (codes ". No list of these moves has fewer rounds than ") ++ decimal n ++ raw (codes ".</text>\n")

-- the cranes, moves and rounds of the list, and the least number of rounds
unfoldable pub head : List ℕ → CraneReport → List ℕ
head name r = named_list name ++ totals r.cranes r.moves (length r.rounds) ++ least_line r.least

unfoldable pub front : CraneReport → List ℕ
front r = opening (width r.cranes) (height (length r.rounds)) ++ view_box (width r.cranes) (height (length r.rounds)) ++ raw texts ++ raw colours

-- where the entry of a purpose stands in the legend
abbrev pub spot : Purpose → List ℕ
spot Discharge = codes "14 56"
spot Load = codes "14 78"
spot MoveAside = codes "200 56"
spot PutBack = codes "200 78"
spot CoverOff = codes "430 56"
spot CoverOn = codes "430 78"

unfoldable pub entry_front : Purpose → List ℕ
entry_front p = raw (codes "<g transform='translate(") ++ raw (spot p) ++ raw (codes ")' class='") ++ raw (letter p)

unfoldable pub entry_box : Purpose → List ℕ
entry_box p = raw (codes "'><rect width='24' height='17'/><text x='12' y='14' class='m'>") ++ raw (letter p) ++ raw (codes "</text><text x='32' y='13'>") ++ raw (words p)

unfoldable pub entry_count : ℕ → List ℕ
entry_count n = raw (codes ": ") ++ decimal n ++ raw (codes "</text></g>\n")

-- a purpose with its colour, its letter and how many shapes have it
unfoldable pub entry : List Shape → Purpose → List ℕ
entry shapes p = entry_front p ++ entry_box p ++ entry_count (count_by (has_purpose p) shapes)

unfoldable pub legend : List Shape → List ℕ
legend shapes = entry shapes Discharge ++ entry shapes Load ++ entry shapes MoveAside ++ entry shapes PutBack ++ entry shapes CoverOff ++ entry shapes CoverOn

-- ## Columns and rows

unfoldable pub column_front : ℕ → List ℕ
column_front crane = raw (codes "<g transform='translate(") ++ decimal (156 * crane) ++ raw (codes " 0)'><text x='74' y='28' class='q'>Crane ") ++ decimal crane

unfoldable pub column_ground : ℕ → List ℕ
column_ground rounds = raw (codes "</text><rect y='36' width='148' height='") ++ decimal (38 * rounds) ++ raw (codes "' class='k'/></g>\n")

-- the column of a crane, which counts from 0 here
unfoldable pub column : ℕ → ℕ → List ℕ
column rounds i = column_front (i + 1) ++ column_ground rounds

abbrev pub columns : ℕ → ℕ → List ℕ
columns rounds cranes = upto (column rounds) cranes

-- the number of a round, which counts from 0 here
unfoldable pub row : ℕ → List ℕ
row i = raw (codes "<text x='148' y='") ++ decimal (38 * i + 59) ++ raw (codes "' class='n'>") ++ decimal (i + 1) ++ raw (codes "</text>\n")

abbrev pub rows : ℕ → List ℕ
rows rounds = upto row rounds

unfoldable pub grid : CraneReport → List ℕ
grid r = raw (codes "<g transform='translate(-92 104)'>\n") ++ columns (length r.rounds) r.cranes ++ rows (length r.rounds)

-- ## The whole

abbrev pub over : List ℕ → CraneReport → List ℕ
over name r = front r ++ head name r

-- the picture of a list under this name: its totals, a legend with the counts, and a shape for each move
abbrev pub work_picture : List ℕ → CraneReport → List ℕ
work_picture name r = over name r ++ legend (shapes_of r.rounds) ++ grid r ++ body (shapes_of r.rounds) ++ raw (codes "</g></svg>\n")
