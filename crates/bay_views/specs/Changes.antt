-- What changed from one bay plan to another: which containers were loaded, discharged and rehandled.
use Rattle.std.specs.Prelude.{ℕ, ◌+◌, ◌-◌, ◌==◌, Bool, false, ◌&&◌, not, codes, List, [], ◌++◌, find, count_by, flat_map, Option, Some, None, is_none}
use Rattle.std.specs.Fmt.{decimal}
use Rattle.baplie.specs.declared.parts.Facts.{Facts}
use Rattle.baplie.specs.declared.parts.CellGroup.{CellGroup}
use Rattle.bay_views.specs.declared.cells.Cell.{Cell}
use Rattle.bay_views.specs.declared.sheets.Sheet.{Sheet}
use Rattle.bay_views.specs.Ports.{same_text}
use Rattle.bay_views.specs.Cells.{cell_of}
use Rattle.bay_views.specs.Marks.{raw, when, label}

abbrev pub has_id : List ℕ → Option Facts → Bool
has_id id None = false
has_id id (Some f) = same_text f.id id

-- the group of a bay plan that holds the container with this number
abbrev pub group_with : List CellGroup → List ℕ → Option CellGroup
group_with groups id = find (λ g. has_id id g.facts) groups

-- a container that the other bay plan doesn't have
abbrev pub lacks : List CellGroup → Option Facts → Bool
lacks others None = false
lacks others (Some f) = is_none (group_with others f.id)

abbrev pub is_missing : List CellGroup → CellGroup → Bool
is_missing others g = lacks others g.facts

abbrev pub same_cell : CellGroup → CellGroup → Bool
same_cell a b = a.bay == b.bay && a.row == b.row && a.tier == b.tier

abbrev pub stands_apart : CellGroup → Option CellGroup → Bool
stands_apart g None = false
stands_apart g (Some other) = not (same_cell g other)

abbrev pub moves : List CellGroup → CellGroup → Option Facts → Bool
moves others g None = false
moves others g (Some f) = stands_apart g (group_with others f.id)

-- a container that stands in another cell in the other bay plan: it was lifted and put back
abbrev pub is_moved : List CellGroup → CellGroup → Bool
is_moved others g = moves others g g.facts

-- ## Counts

abbrev pub loaded : List CellGroup → List CellGroup → ℕ
loaded before now = count_by (is_missing before) now

abbrev pub discharged : List CellGroup → List CellGroup → ℕ
discharged before now = count_by (is_missing now) before

abbrev pub rehandled : List CellGroup → List CellGroup → ℕ
rehandled before now = count_by (is_moved before) now

unfoldable pub change_line : ℕ → ℕ → ℕ → List ℕ
change_line loads discharges rehandles =
    label 640 42 (codes "l") ++ raw (codes "Since the bay plan before: &#9650; ") ++ decimal loads ++ raw (codes " loaded, &#9660; ") ++ decimal discharges ++ raw (codes " discharged, &#9670; ") ++ decimal rehandles ++ raw (codes " rehandled</text>\n")

unfoldable pub changes_since : Option (List CellGroup) → List CellGroup → List ℕ
changes_since None now = []
changes_since (Some before) now = change_line (loaded before now) (discharged before now) (rehandled before now)

-- ## In cells

abbrev pub no_longer : Option (List CellGroup) → CellGroup → Bool
no_longer None g = false
no_longer (Some others) g = is_missing others g

abbrev pub elsewhere : Option (List CellGroup) → CellGroup → Bool
elsewhere None g = false
elsewhere (Some others) g = is_moved others g

-- ▲ was loaded, ◆ was rehandled, on the left
unfoldable pub came : Cell → Bool → Bool → List ℕ
came cell loads moves =
    when loads (label (cell.left + 2) (cell.top + 21) (codes "c") ++ raw (codes "&#9650;</text>\n")) ++ when moves (label (cell.left + 2) (cell.top + 21) (codes "c") ++ raw (codes "&#9670;</text>\n"))

-- ▼ is discharged before the bay plan behind, on the right
unfoldable pub goes : Cell → Bool → List ℕ
goes cell leaves = when leaves (label (cell.left + cell.width - 2) (cell.top + 21) (codes "o") ++ raw (codes "&#9660;</text>\n"))

unfoldable pub change_marks : Sheet → Option (List CellGroup) → Option (List CellGroup) → CellGroup → List ℕ
change_marks s before after g = came (cell_of s g) (no_longer before g) (elsewhere before g) ++ goes (cell_of s g) (no_longer after g)

abbrev pub all_changes : Sheet → Option (List CellGroup) → Option (List CellGroup) → List CellGroup → List ℕ
all_changes s before after groups = flat_map (λ g. change_marks s before after g) groups
