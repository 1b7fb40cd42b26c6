-- Where bays and cells lie on a sheet.
use Rattle.std.specs.Prelude.{◌≢◌, ◌⊎◌, ℕ, ◌+◌, ◌<◌, ◌≤◌, List, length, All, Contains}
use Rattle.baplie.specs.declared.parts.CellGroup.{CellGroup}
use Rattle.stow_report.specs.Listings.{IsCell}
use Rattle.bay_views.specs.declared.cells.Cell.{Cell}
use Rattle.bay_views.specs.declared.sheets.Sheet.{Sheet}
use Rattle.bay_views.specs.Frames.{bay_width, bay_height}
use Rattle.bay_views.specs.Bays.{home_of}
use Rattle.bay_views.specs.Sheets.{sheet_of, place_of, bay_left, bay_top}
use Rattle.bay_views.specs.Cells.{cell_of}

-- ## Rectangles

-- in pixels, from the upper left corner of the sheet
pub record Rectangle : Type 0 where
  pub left : ℕ
  pub top : ℕ
  pub width : ℕ
  pub height : ℕ

-- the one holds the other
pub record Holds (outer inner : Rectangle) : Type 0 where
  pub left : outer.left ≤ inner.left
  pub right : inner.left + inner.width ≤ outer.left + outer.width
  pub top : outer.top ≤ inner.top
  pub bottom : inner.top + inner.height ≤ outer.top + outer.height

-- they don't overlap
pub data AreDisjoint (a b : Rectangle) : Type 0 where
  LeftOf : a.left + a.width ≤ b.left → AreDisjoint a b
  RightOf : b.left + b.width ≤ a.left → AreDisjoint a b
  Above : a.top + a.height ≤ b.top → AreDisjoint a b
  Below : b.top + b.height ≤ a.top → AreDisjoint a b

-- what a bay is drawn in, by its place from 0
abbrev pub bay_frame : Sheet → ℕ → Rectangle
bay_frame s i = record { left = bay_left s i; top = bay_top s i; width = bay_width s.frame; height = bay_height s.frame }

-- a tier is 24 high
abbrev pub box_of : Cell → Rectangle
box_of c = record { left = c.left; top = c.top; width = c.width; height = 24 }

abbrev pub cell_box : Sheet → CellGroup → Rectangle
cell_box s g = box_of (cell_of s g)

-- the place of the bay that a cell is drawn in
abbrev pub bay_place : Sheet → CellGroup → ℕ
bay_place s g = place_of s (home_of s.long_bays g.bay)

-- ## Cells of different places (ISO 9711)

-- at least two numbers lie between them
abbrev pub AreApart : ℕ → ℕ → Type 0
AreApart m n = (m + 2 ≤ n) ⊎ (n + 2 ≤ m)

-- Two cells share no part of a place: a bay of 40 foot has the number between those of its halves, a tier takes two numbers.
pub data ShareNothing (a b : CellGroup) : Type 0 where
  ByBay : AreApart a.bay b.bay → ShareNothing a b
  ByRow : a.row ≢ b.row → ShareNothing a b
  ByTier : AreApart a.tier b.tier → ShareNothing a b

-- ## Of every sheet

-- a cell of the message, on the sheet
abbrev pub IsDrawn : List CellGroup → CellGroup → Type 0
IsDrawn groups g = All IsCell groups × Contains groups g

-- each cell lies in one of the bays that are drawn
abbrev pub LiesInBay : Sheet → CellGroup → Type 0
LiesInBay s g = (bay_place s g < length s.bays) × Holds (bay_frame s (bay_place s g)) (cell_box s g)

abbrev pub CellsLieInTheirBays : Type 0
CellsLieInTheirBays = (ports : ℕ) (groups : List CellGroup) (g : CellGroup) → IsDrawn groups g → LiesInBay (sheet_of ports groups) g

-- no two bays overlap
abbrev pub BaysAreApart : Type 0
BaysAreApart = (s : Sheet) (i j : ℕ) → i ≢ j → AreDisjoint (bay_frame s i) (bay_frame s j)

-- no two cells overlap that share no part of a place
abbrev pub CellsAreApart : Type 0
CellsAreApart =
    (ports : ℕ) (groups : List CellGroup) (a b : CellGroup) → IsDrawn groups a → IsDrawn groups b → ShareNothing a b → AreDisjoint (cell_box (sheet_of ports groups) a) (cell_box (sheet_of ports groups) b)
