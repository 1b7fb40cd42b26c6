-- The right side of a crossing row.
use Rattle.std.specs.Prelude.{ℕ, zero, suc, ◌*◌, min, List, [], ◌∷◌, sum, ℤ, pos, ◌+ℤ◌, ◌-ℤ◌}
use Rattle.std.specs.Int.{int_max}

-- the greatest of f 0 to f n
abbrev pub greatest : ℕ → (ℕ → ℤ) → ℤ
greatest zero f = f 0
greatest (suc n) f = int_max (greatest n f) (f (suc n))

-- the most that up to so many columns keep out of a load, less their price
abbrev pub kept_out : ℕ → ℕ → ℕ → ℕ → ℤ
kept_out columns height price load = greatest columns (λ c. pos (min load (height * c)) -ℤ pos (price * c))

abbrev pub all_kept_out : ℕ → ℕ → ℕ → List ℕ → ℤ
all_kept_out columns height price [] = pos 0
all_kept_out columns height price (t ∷ ts) = kept_out columns height price t +ℤ all_kept_out columns height price ts

-- all loads, less the price of all columns and what is kept out of each load
abbrev pub right_side : List ℕ → ℕ → ℕ → ℕ → ℤ
right_side loads columns height price = pos (sum loads) -ℤ pos (price * columns) -ℤ all_kept_out columns height price loads
