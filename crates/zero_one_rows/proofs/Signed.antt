-- The right side in numbers without sign, as the code counts it.
use Rattle.std.proofs.Common.{◌≡◌, ℕ, zero, suc, ◌+◌, ◌*◌, List, [], ◌∷◌, pos, ◌-ℤ◌, arith, refl, min, sum}
use Rattle.std.specs.List.{sum_by}
use Rattle.std.proofs.lemmas.List.Sums.{sum_by-cons}
use borrow.Author.Differences.{ints}
use Rattle.zero_one_rows.specs.Gains.{gain, greatest_to, best_gain}
use Rattle.zero_one_rows.specs.RightSide.{greatest, all_kept_out, right_side}

greatest_is : (n : ℕ) (height price load : ℕ) → greatest n (λ c. pos (min load (height * c)) -ℤ pos (price * c)) ≡ pos (greatest_to n (gain height price load))
greatest_is zero height price load = omega (arith, ints)
greatest_is (suc n) height price load = grind (arith, ints, greatest_is n height price load)

all_are : (columns height price : ℕ) (ts : List ℕ) → all_kept_out columns height price ts ≡ pos (sum_by (best_gain columns height price) ts)
all_are columns height price [] = refl
all_are columns height price (t ∷ ts) = omega (arith, ints, all_are columns height price ts, greatest_is columns height price t, sum_by-cons (best_gain columns height price) t ts)

pub unsigned_side : (loads : List ℕ) (columns height price : ℕ) → right_side loads columns height price ≡ pos (sum loads) -ℤ pos (price * columns + sum_by (best_gain columns height price) loads)
unsigned_side loads columns height price = omega (arith, ints, all_are columns height price loads)
