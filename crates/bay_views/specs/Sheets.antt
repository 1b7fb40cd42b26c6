-- Where the bays of a picture stand.
use Rattle.std.specs.Prelude.{ℕ, ◌+◌, ◌-◌, ◌*◌, ◌/◌, ◌%◌, ◌^◌, ◌<◌, ◌≤◌, ◌==◌, min, max, List, length}
use Rattle.std.specs.List.{position_or_len}
use Rattle.baplie.specs.declared.parts.CellGroup.{CellGroup}
use Rattle.bay_views.specs.declared.sheets.Sheet.{Sheet}
use Rattle.bay_views.specs.Frames.{IsFrame, frame_of, bay_width, bay_height}
use Rattle.bay_views.specs.Bays.{long_bays, drawn_bays}

-- the legend has six ports a line, and room for 2^32 of them
abbrev pub legend_lines : ℕ → ℕ
legend_lines ports = (min ports (2 ^ 32) + 5) / 6

-- the sheet of a message, under a legend of so many ports
abbrev pub sheet_of : ℕ → List CellGroup → Sheet
sheet_of ports groups = record { frame = frame_of groups; long_bays = long_bays groups; bays = drawn_bays groups; top = 98 + 22 * legend_lines ports }

pub record IsSheet (s : Sheet) : Type 0 where
  pub frame : IsFrame s.frame
  pub few : length s.bays ≤ 501
  pub top : s.top < 2 ^ 40

-- as many bays beside each other as 1,600 pixels hold, and at least one
abbrev pub per_line : Sheet → ℕ
per_line s = max 1 (1600 / bay_width s.frame)

-- the place of a bay of 40 foot among those that are drawn
abbrev pub place_of : Sheet → ℕ → ℕ
place_of s home = position_or_len (λ bay. bay == home) s.bays

abbrev pub bay_left : Sheet → ℕ → ℕ
bay_left s place = 10 + place % per_line s * bay_width s.frame

abbrev pub bay_top : Sheet → ℕ → ℕ
bay_top s place = s.top + place / per_line s * bay_height s.frame

-- wide enough for the legend
abbrev pub sheet_width : Sheet → ℕ
sheet_width s = max 1260 (20 + per_line s * bay_width s.frame)

abbrev pub bay_lines : Sheet → ℕ
bay_lines s = (length s.bays + per_line s - 1) / per_line s

abbrev pub sheet_height : Sheet → ℕ
sheet_height s = s.top + bay_lines s * bay_height s.frame + 10
