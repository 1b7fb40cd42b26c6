-- The text of a picture (SVG 1.1).
use Rattle.std.specs.Prelude.{ℕ, ◌+◌, ◌-◌, ◌*◌, ◌/◌, ◌%◌, ◌^◌, min, nat_lt, codes, List, [], ◌∷◌, ◌++◌, length, flat_map, count_by, slice_get, slice_index_or, Option, Some, None, if◌then◌else◌}
use Rattle.std.specs.Fmt.{decimal}
use Rattle.std.specs.List.{sum_by}
use Rattle.baplie.specs.declared.parts.CellGroup.{CellGroup}
use Rattle.stow_data.specs.Digits.{digit}
use Rattle.bay_views.specs.declared.frames.Frame.{Frame}
use Rattle.bay_views.specs.declared.sheets.Sheet.{Sheet}
use Rattle.bay_views.specs.declared.character_sets.CharacterSet.{CharacterSet}
use Rattle.bay_views.specs.CharacterSets.{character_set_of}
use Rattle.bay_views.specs.Upto.{upto}
use Rattle.bay_views.specs.Frames.{bay_width, bay_height, columns, deck_height, hold_height, hold_begin, top_of, row_of}
use Rattle.bay_views.specs.Sheets.{sheet_of, bay_left, bay_top, sheet_width, sheet_height}
use Rattle.bay_views.specs.Ports.{is_for, kg_for}
use Rattle.bay_views.specs.Cells.{shape_of}
use Rattle.bay_views.specs.PortMarks.{marks_of, mark_at}
use Rattle.bay_views.specs.Marks.{raw, label, letters, rect, swatch, whole, short, tonnes, shape_text}
use Rattle.bay_views.specs.Heads.{heading}
use Rattle.bay_views.specs.Changes.{changes_since, all_changes}
use Rattle.bay_views.specs.Stacks.{stacks}
use Rattle.baplie.specs.declared.parts.Message.{Message}

-- ## The legend

abbrev pub entry_left : ℕ → ℕ
entry_left i = 14 + 206 * (i % 6)

abbrev pub entry_top : ℕ → ℕ
entry_top i = 72 + 22 * (min i (2 ^ 32) / 6)

unfoldable pub port_name : CharacterSet → List ℕ → List ℕ
port_name set port = whole set 12 port ++ short set 12 port

abbrev pub counts : CharacterSet → List ℕ → ℕ → ℕ → List ℕ
counts set port containers kg = port_name set port ++ raw (codes ": ") ++ decimal containers ++ raw (codes ", ") ++ tonnes kg ++ raw (codes " t</text>\n")

-- the colour of a port, and where its text begins
unfoldable pub entry_front : ℕ → ℕ → ℕ → List ℕ
entry_front left top i = swatch left top 26 16 i ++ label (left + 32) (top + 13) (codes "l")

-- a port with its colour, its containers and their tonnes; its mark stands in the colour
abbrev pub entry : CharacterSet → ℕ → List ℕ → ℕ → ℕ → List ℕ
entry set i port containers kg = entry_front (entry_left i) (entry_top i) i ++ counts set port containers kg

abbrev pub entry_in : CharacterSet → List CellGroup → ℕ → Option (List ℕ) → List ℕ
entry_in set groups i None = []
entry_in set groups i (Some port) = entry set i port (count_by (is_for port) groups) (sum_by (kg_for port) groups)

unfoldable pub entry_of : CharacterSet → List (List ℕ) → List (List ℕ) → List CellGroup → ℕ → List ℕ
entry_of set ports marks groups i = entry_in set groups i (slice_get ports i) ++ letters set (entry_left i + 13) (entry_top i + 12) (mark_at marks i)

abbrev pub legend : CharacterSet → List (List ℕ) → List (List ℕ) → List CellGroup → List ℕ
legend set ports marks groups = upto (entry_of set ports marks groups) (length ports)

-- ## What each bay is drawn on

abbrev pub two_digits : ℕ → List ℕ
two_digits n = digit (n / 10) ∷ digit n ∷ []

abbrev pub row_label : Frame → ℕ → ℕ → List ℕ
row_label f base n = label (62 + 56 * n) base (codes "n") ++ two_digits (row_of f n) ++ raw (codes "</text>")

unfoldable pub row_labels : Frame → ℕ → List ℕ
row_labels f base = upto (row_label f base) (columns f)

abbrev pub tier_label : Frame → ℕ → ℕ → List ℕ
tier_label f low k = label 20 (top_of f (low + 2 * k) + 16) (codes "n") ++ two_digits (low + 2 * k) ++ raw (codes "</text>")

abbrev pub tier_labels : Frame → ℕ → ℕ → List ℕ
tier_labels f low height = upto (tier_label f low) (height / 24)

-- the deck, the hatch line and the hold
unfoldable pub area : ℕ → ℕ → ℕ → List ℕ → List ℕ
area top width height class = rect 34 top width height ++ raw class

abbrev pub areas : ℕ → ℕ → ℕ → ℕ → List ℕ
areas width deck begin hold = area 54 width deck (codes "k'/>") ++ area (deck + 56) width 4 (codes "x'/>") ++ area begin width hold (codes "w'/>")

unfoldable pub ground : Frame → List ℕ
ground f = areas (56 * columns f) (deck_height f) (hold_begin f) (hold_height f)

unfoldable pub low_rows : Frame → List ℕ
low_rows f = row_labels f (hold_begin f + hold_height f + 26)

unfoldable pub deck_tiers : Frame → List ℕ
deck_tiers f = tier_labels f f.deck_low (deck_height f)

unfoldable pub hold_tiers : Frame → List ℕ
hold_tiers f = tier_labels f f.hold_low (hold_height f)

abbrev pub template : Frame → List ℕ
template f =
    raw (codes "<defs><g id='b'>") ++ ground f ++ row_labels f 36 ++ low_rows f ++ deck_tiers f ++ hold_tiers f ++ raw (codes "</g></defs>\n")

-- two digits, or more from 100 on
abbrev pub bay_digits : ℕ → List ℕ
bay_digits n = if nat_lt n 100 then two_digits n else decimal n

abbrev pub use_at : ℕ → ℕ → List ℕ
use_at left top = raw (codes "<use href='#b' x='") ++ decimal left ++ raw (codes "' y='") ++ decimal top ++ raw (codes "'/>")

abbrev pub bay : ℕ → ℕ → ℕ → List ℕ
bay left top number =
    use_at left top ++ label (left + 34) (top + 18) (codes "h") ++ raw (codes "Bay ") ++ bay_digits number ++ raw (codes " (") ++ bay_digits (number - 1) ++ raw (codes ", ") ++ bay_digits (number + 1) ++ raw (codes ")</text>\n")

abbrev pub bay_of : Sheet → ℕ → List ℕ
bay_of s i = bay (bay_left s i) (bay_top s i) (slice_index_or s.bays i 0)

abbrev pub bays : Sheet → List ℕ
bays s = upto (bay_of s) (length s.bays)

-- ## The whole

abbrev pub opening : ℕ → ℕ → List ℕ
opening width height =
    raw (codes "<svg xmlns='http://www.w3.org/2000/svg' width='") ++ decimal width ++ raw (codes "' height='") ++ decimal height ++ raw (codes "' viewBox='0 0 ") ++ decimal width ++ raw (codes " ") ++ decimal height ++ raw (codes "'>\n")

abbrev pub texts : List ℕ
texts = codes "<style>text{font:12px sans-serif}.h{font-weight:bold;font-size:15px}.n{font-size:11px;text-anchor:middle;fill:#444}.s{font-size:9.5px;text-anchor:middle}.t{font-size:10.5px;font-weight:bold;text-anchor:middle}.m,.g{font-size:8.5px}.g,.o{text-anchor:end}.c,.o{font-size:8px}.t,.m,.g,.c,.o{paint-order:stroke;stroke:#fff;stroke-width:2.6px;stroke-linejoin:round}\n"

abbrev pub boxes : List ℕ
boxes = codes "rect{stroke:#444;stroke-width:.7}.v{fill:none;stroke:#999;stroke-dasharray:3 2}.k{fill:#eef4f8;stroke:none}.w{fill:#f2efe8;stroke:none}.x{fill:#000;stroke:none}.z{fill:url(#z)}.e rect{fill-opacity:.4}.r rect{stroke:#0033aa;stroke-width:2.4}.d rect{stroke:#a00000;stroke-width:2.4;stroke-dasharray:5 2}\n"

-- seven colours that differ for colour-blind readers too (Okabe and Ito 2008)
abbrev pub colours : List ℕ
colours = codes ".p0{fill:#e69f00}.p1{fill:#56b4e9}.p2{fill:#009e73}.p3{fill:#f0e442}.p4{fill:#0072b2}.p5{fill:#d55e00}.p6{fill:#cc79a7}</style>\n"

abbrev pub pattern : List ℕ
pattern = codes "<defs><pattern id='z' width='9' height='9' patternUnits='userSpaceOnUse' patternTransform='rotate(45)'><path d='M0 0H3.5V9H0Z' fill='#222'/></pattern></defs>\n"

abbrev pub key : List ℕ
key = codes "<text x='14' y='60' class='l'>Seen from aft; 20 foot: half a cell, fore left, aft right. Letters: port of discharge. Number: tonnes. R: reefer (blue outline). E: empty (pale). Class of dangerous goods (dashed). &#9660;: discharged next. Beside a stack: its tonnes.</text>\n"

unfoldable pub front : ℕ → ℕ → List ℕ
front width height = opening width height ++ raw texts ++ raw boxes ++ raw colours ++ raw pattern ++ raw key

-- the shape of each cell group, in their order
unfoldable pub drawn : CharacterSet → Sheet → List (List ℕ) → List (List ℕ) → CellGroup → List ℕ
drawn set s ports marks g = shape_text set marks (shape_of s ports g)

abbrev pub body : CharacterSet → Sheet → List (List ℕ) → List (List ℕ) → List CellGroup → List ℕ
body set s ports marks groups = flat_map (λ g. drawn set s ports marks g) groups

-- where a bay stands, by its number from 0, for a page that shows it alone
unfoldable pub view : ℕ → ℕ → ℕ → ℕ → ℕ → List ℕ
view i left top width height =
    raw (codes "<view id='v") ++ decimal i ++ raw (codes "' viewBox='") ++ decimal left ++ raw (codes " ") ++ decimal top ++ raw (codes " ") ++ decimal width ++ raw (codes " ") ++ decimal height ++ raw (codes "'/>\n")

abbrev pub view_of : Sheet → ℕ → List ℕ
view_of s i = view i (bay_left s i) (bay_top s i) (bay_width s.frame) (bay_height s.frame)

abbrev pub views : Sheet → List ℕ
views s = upto (view_of s) (length s.bays)

-- over the bays, but for the legend
unfoldable pub over : Sheet → Message → Option (List CellGroup) → List ℕ
over s m before = front (sheet_width s) (sheet_height s) ++ heading (character_set_of m) m.head m.groups ++ changes_since before m.groups

-- the bays without their cells
unfoldable pub base : Sheet → List CellGroup → List ℕ
base s groups = template s.frame ++ bays s ++ stacks s groups ++ views s

abbrev pub drawing : Sheet → List (List ℕ) → List (List ℕ) → Message → Option (List CellGroup) → Option (List CellGroup) → List ℕ
drawing s ports marks m before after =
    over s m before ++ legend (character_set_of m) ports marks m.groups ++ base s m.groups ++ body (character_set_of m) s ports marks m.groups ++ all_changes s before after m.groups ++ raw (codes "</svg>\n")

-- the picture of a message, beside the groups of the bay plan before it and of the one behind it, where there are such
unfoldable pub picture : List (List ℕ) → Message → Option (List CellGroup) → Option (List CellGroup) → List ℕ
picture ports m before after = drawing (sheet_of (length ports) m.groups) ports (marks_of ports) m before after
