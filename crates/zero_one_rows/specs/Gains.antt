-- What columns keep out of a load, as the code counts it: in numbers without sign.
use Rattle.std.specs.Prelude.{ℕ, zero, suc, ◌-◌, ◌*◌, min, max}

-- never below what no column keeps, which is 0
abbrev pub gain : ℕ → ℕ → ℕ → ℕ → ℕ
gain height price load c = min load (height * c) - price * c

-- the greatest of f 0 to f n
abbrev pub greatest_to : ℕ → (ℕ → ℕ) → ℕ
greatest_to zero f = f 0
greatest_to (suc n) f = max (greatest_to n f) (f (suc n))

abbrev pub best_gain : ℕ → ℕ → ℕ → ℕ → ℕ
best_gain columns height price load = greatest_to columns (gain height price load)
