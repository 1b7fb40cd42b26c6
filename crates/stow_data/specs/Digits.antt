-- Decimal digits, and the numbers that they spell.
use Rattle.std.specs.Prelude.{ℕ, ◌+◌, ◌*◌, ◌-◌, ◌%◌, Bool, ◌&&◌, nat_le, min, List, fold}

-- 0 to 9
abbrev pub is_digit : ℕ → Bool
is_digit b = nat_le 48 b && nat_le b 57

-- the number of a digit; what it is of another byte is of no account
abbrev pub digit_of : ℕ → ℕ
digit_of b = min (b - 48) 9

-- a further digit behind a number
abbrev pub with_digit : ℕ → ℕ → ℕ
with_digit n b = n * 10 + digit_of b

-- the number that digits spell
abbrev pub value : List ℕ → ℕ
value text = fold with_digit 0 text

-- the last decimal digit of a number, as a byte
abbrev pub digit : ℕ → ℕ
digit n = 48 + n % 10
