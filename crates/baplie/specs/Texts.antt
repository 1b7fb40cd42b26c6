-- The texts of cells, counts and weights (SMDG BAPLIE 2.2).
use Rattle.std.specs.Prelude.{ℕ, ◌+◌, ◌-◌, ◌/◌, Bool, ◌&&◌, ◌||◌, ◌==◌, nat_le, List, [], ◌∷◌, length, take, drop, Option, Some, None, if◌then◌else◌}
use Rattle.std.specs.List.{list_all, position_or_len}
use Rattle.stow_data.specs.Digits.{digit, is_digit, value}

-- ## Cells

-- six or seven digits
abbrev pub is_cell : List ℕ → Bool
is_cell text = (length text == 6 || length text == 7) && list_all is_digit text

-- bay, row and tier number: seven digits BBBRRTT, or six BBRRTT
abbrev pub cell_of : List ℕ → Option (ℕ × ℕ × ℕ)
cell_of text = if is_cell text then Some (value (take (length text - 4) text), value (take 2 (drop (length text - 4) text)), value (drop (length text - 2) text)) else None

-- a bay, row and tier number in seven digits: three of the bay, two of the row, two of the tier
abbrev pub cell_digits : ℕ → ℕ → ℕ → List ℕ
cell_digits bay row tier = digit (bay / 100) ∷ digit (bay / 10) ∷ digit bay ∷ digit (row / 10) ∷ digit row ∷ digit (tier / 10) ∷ digit tier ∷ []

-- ## Counts and weights

-- one to nine digits
abbrev pub is_number : List ℕ → Bool
is_number text = (nat_le 1 (length text) && nat_le (length text) 9) && list_all is_digit text

abbrev pub number_of : List ℕ → Option ℕ
number_of text = if is_number text then Some (value text) else None

-- a decimal mark: `.` or `,`
abbrev pub is_mark : ℕ → Bool
is_mark b = b == 46 || b == 44

-- whole kilograms and decimals, rounded up
abbrev pub rounded_up : ℕ → ℕ → ℕ
rounded_up whole decimals = if decimals == 0 then whole else whole + 1

abbrev pub with_decimals : Option ℕ → Option ℕ → Option ℕ
with_decimals None decimals = None
with_decimals (Some whole) None = None
with_decimals (Some whole) (Some decimals) = Some (rounded_up whole decimals)

-- a text whose first decimal mark stands at this place, or that has none before this end
abbrev pub read_at : ℕ → List ℕ → Option ℕ
read_at mark text = if mark == length text then number_of text else with_decimals (number_of (take mark text)) (number_of (drop (mark + 1) text))

abbrev pub at_most : ℕ → Option ℕ → Option ℕ
at_most limit None = None
at_most limit (Some n) = if nat_le n limit then Some n else None

-- one to nine digits, then perhaps a decimal mark and one to nine digits: rounded up to whole kilograms, of which there are at most 99,999
abbrev pub weight_of : List ℕ → Option ℕ
weight_of text = at_most 99999 (read_at (position_or_len is_mark text) text)
