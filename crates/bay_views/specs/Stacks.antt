-- The tonnes of each stack.
use Rattle.std.specs.Prelude.{ℕ, ◌+◌, ◌*◌, ◌==◌, Bool, true, false, ◌&&◌, not, nat_lt, codes, List, ◌++◌, length, slice_index_or, if◌then◌else◌}
use Rattle.std.specs.List.{sum_by}
use Rattle.baplie.specs.declared.parts.CellGroup.{CellGroup}
use Rattle.stow_report.specs.Listings.{kilograms}
use Rattle.bay_views.specs.declared.frames.Frame.{Frame}
use Rattle.bay_views.specs.declared.sheets.Sheet.{Sheet}
use Rattle.bay_views.specs.declared.stacks.Stack.{Stack}
use Rattle.bay_views.specs.Upto.{upto}
use Rattle.bay_views.specs.Frames.{is_deck, columns, hold_height, hold_begin, row_of}
use Rattle.bay_views.specs.Bays.{home_of}
use Rattle.bay_views.specs.Sheets.{bay_left, bay_top}
use Rattle.bay_views.specs.Marks.{raw, when, label, tonnes}

-- on deck, or in the hold
abbrev pub is_side : Bool → ℕ → Bool
is_side deck tier = if deck then is_deck tier else not (is_deck tier)

-- a cell of the stack: of its row and side, in its bay of 40 foot or a half of it
abbrev pub is_in : List ℕ → Stack → CellGroup → Bool
is_in longs stack g = g.row == stack.row && is_side stack.deck g.tier && home_of longs g.bay == stack.home

abbrev pub kg_in : List ℕ → Stack → CellGroup → ℕ
kg_in longs stack g = if is_in longs stack g then kilograms g else 0

abbrev pub stack_kg : List ℕ → Stack → List CellGroup → ℕ
stack_kg longs stack groups = sum_by (kg_in longs stack) groups

-- over the deck, or under the hold
abbrev pub stack_base : Frame → Bool → ℕ
stack_base f deck = if deck then 49 else hold_begin f + hold_height f + 13

-- nothing where nothing stands there
unfoldable pub stack_text : ℕ → ℕ → ℕ → List ℕ
stack_text left base kg = when (nat_lt 0 kg) (label left base (codes "s") ++ tonnes kg ++ raw (codes "</text>\n"))

-- the stack of a column of a drawn bay
abbrev pub stack_at : Sheet → ℕ → Bool → ℕ → Stack
stack_at s i deck n = record { home = slice_index_or s.bays i 0; row = row_of s.frame n; deck = deck }

abbrev pub stack_label : Sheet → List CellGroup → ℕ → Bool → ℕ → List ℕ
stack_label s groups i deck n =
    stack_text (bay_left s i + 62 + 56 * n) (bay_top s i + stack_base s.frame deck) (stack_kg s.long_bays (stack_at s i deck n) groups)

unfoldable pub side_stacks : Sheet → List CellGroup → ℕ → Bool → List ℕ
side_stacks s groups i deck = upto (stack_label s groups i deck) (columns s.frame)

abbrev pub bay_stacks : Sheet → List CellGroup → ℕ → List ℕ
bay_stacks s groups i = side_stacks s groups i true ++ side_stacks s groups i false

abbrev pub stacks : Sheet → List CellGroup → List ℕ
stacks s groups = upto (bay_stacks s groups) (length s.bays)
