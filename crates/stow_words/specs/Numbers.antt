-- The numbers of a command line.
use Rattle.std.specs.Prelude.{ℕ, Bool, ◌&&◌, nat_le, List, length, Option, Some, None, if◌then◌else◌}
use Rattle.std.specs.List.{list_all}
use Rattle.stow_data.specs.Digits.{is_digit, value}

-- one to ten digits
abbrev pub is_number : List ℕ → Bool
is_number text = (nat_le 1 (length text) && nat_le (length text) 10) && list_all is_digit text

-- the number that a text spells, where it is one of the numbers from `least` to `most`
abbrev pub number_in : ℕ → ℕ → List ℕ → Option ℕ
number_in least most text = if is_number text && (nat_le least (value text) && nat_le (value text) most) then Some (value text) else None
