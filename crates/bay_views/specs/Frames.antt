-- The rows and tiers of a picture (ISO 9711).
use Rattle.std.specs.Prelude.{ℕ, ◌+◌, ◌-◌, ◌*◌, ◌/◌, ◌%◌, ◌≤◌, ◌==◌, min, max, nat_le, Bool, List, fold, if◌then◌else◌}
use Rattle.baplie.specs.declared.parts.CellGroup.{CellGroup}
use Rattle.bay_views.specs.declared.frames.Frame.{Frame}

-- ## Of a message

-- rows count from the middle: 01 and 02 stand first beside it, 03 and 04 second
abbrev pub side_of : ℕ → ℕ
side_of row = (row + 1) / 2

-- deck tiers begin at 80
abbrev pub is_deck : ℕ → Bool
is_deck tier = nat_le 80 tier

-- no more than is always drawn: no column, and neither on deck nor in the hold a tier
abbrev pub bare : Frame
bare = record { side = 0; middle = 0; deck_low = 82; deck_top = 80; hold_low = 2; hold_top = 0 }

-- columns for a row
abbrev pub with_row : Frame → ℕ → Frame
with_row f row = record f { side = max f.side (side_of row); middle = if row == 0 then 1 else f.middle }

-- even tiers that a tier stands within
abbrev pub with_tier : Frame → ℕ → Frame
with_tier f tier =
    if is_deck tier then record f { deck_low = min f.deck_low (tier - tier % 2); deck_top = max f.deck_top (tier + tier % 2) } else record f { hold_low = min f.hold_low (tier - tier % 2); hold_top = max f.hold_top (tier + tier % 2) }

abbrev pub with_group : Frame → CellGroup → Frame
with_group f g = with_tier (with_row f g.row) g.tier

-- the least frame that holds all cells
abbrev pub frame_of : List CellGroup → Frame
frame_of groups = fold with_group bare groups

pub record IsFrame (f : Frame) : Type 0 where
  pub side : f.side ≤ 50
  pub middle : f.middle ≤ 1
  pub deck_low : f.deck_low ≤ 82
  pub deck_from : 80 ≤ f.deck_low
  pub deck_top : f.deck_top ≤ 100
  pub deck_to : 80 ≤ f.deck_top
  pub hold_low : f.hold_low ≤ 2
  pub hold_top : f.hold_top ≤ 80

-- ## Measures, in pixels

-- a cell of 40 foot is 56 wide, one of 20 foot half of it; a tier, two numbers, is 24 high
abbrev pub columns : Frame → ℕ
columns f = 2 * f.side + f.middle

abbrev pub deck_height : Frame → ℕ
deck_height f = 12 * (f.deck_top + 2 - f.deck_low)

abbrev pub hold_height : Frame → ℕ
hold_height f = 12 * (f.hold_top + 2 - f.hold_low)

abbrev pub bay_width : Frame → ℕ
bay_width f = 56 * columns f + 60

abbrev pub bay_height : Frame → ℕ
bay_height f = deck_height f + hold_height f + 110

-- even rows lead from the middle to the left, odd ones to the right
abbrev pub column : Frame → ℕ → ℕ
column f row = if row % 2 == 0 then f.side - side_of row else f.side + f.middle + side_of row - 1

abbrev pub left_of : Frame → ℕ → ℕ
left_of f row = 34 + 56 * column f row

-- where the hold begins: below the deck and the hatch line
abbrev pub hold_begin : Frame → ℕ
hold_begin f = deck_height f + 62

-- deck tiers rise from the hatch line, hold tiers fall from it
abbrev pub top_of : Frame → ℕ → ℕ
top_of f tier = if is_deck tier then 54 + 12 * (f.deck_top - tier) else hold_begin f + 12 * (f.hold_top - tier)

-- the row that a column is of
abbrev pub row_of : Frame → ℕ → ℕ
row_of f n = if nat_le (f.side + f.middle) n then 2 * (n - (f.side + f.middle)) + 1 else 2 * (f.side - n)
