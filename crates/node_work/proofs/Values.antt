-- The dual value of a full box without multipliers, and of a box in which a row is violated.
use Rattle.std.proofs.Common.{◌≡◌, ℕ, zero, suc, ◌+◌, ◌*◌, ◌<◌, ◌≤◌, Bool, true, false, ◌&&◌, [], ◌∷◌, Option, Some, None, ℤ, pos, negsuc, ◌+ℤ◌, ◌-ℤ◌, ◌*ℤ◌, ◌≤ℤ◌, int_lt, refl, sym, subst, ◌∙◌, ap, arith}
use borrow.Author.Differences.{ints}
use Rattle.std.specs.Int.{int_max, int_min}
use Rattle.proof_trees.specs.Program.{Program, sum_to, where_set, cost_of}
use Rattle.proof_trees.specs.Boxes.{Box, at, greatest, most, violated}
use Rattle.proof_trees.specs.Multipliers.{least, worth, Closes}
use Rattle.proof_trees.proofs.Sums.{times_sum, scaled_le}
use Rattle.search_core.specs.Machine.{bit_of, is_fixed, fixed_below, bits}

and_left : (a b : Bool) → (a && b) ≡ true → a ≡ true
and_left true b e = refl
and_left false b e = cc

pub and_right : (a b : Bool) → (a && b) ≡ true → b ≡ true
and_right true b e = e
and_right false b e = cc

-- ## A full box

fixed_least : (o : Option Bool) (z : ℤ) → is_fixed o ≡ true → least o z ≡ where_set (bit_of o) z
fixed_least None z e = absurd (cc)
fixed_least (Some y) z e = refl

times_bit : (x : Bool) (c : ℤ) → where_set x (pos 16 *ℤ c -ℤ pos 0) ≡ pos 16 *ℤ where_set x c
times_bit true c = omega (arith, ints)
times_bit false c = refl

module _ {R : Type 0} (p : Program R) (b : Box) where
  full_sum : (n : ℕ) → fixed_below n b ≡ true → sum_to n (λ v. least (at b v) (pos 16 *ℤ p.cost v -ℤ pos 0)) ≡ pos 16 *ℤ sum_to n (λ v. where_set (bit_of (at b v)) (p.cost v))
  full_sum zero e = refl
  full_sum (suc n) e =
      omega (arith, ints, full_sum n (and_right (is_fixed (at b n)) (fixed_below n b) e), fixed_least (at b n) (pos 16 *ℤ p.cost n -ℤ pos 0) (and_left (is_fixed (at b n)) (fixed_below n b) e), times_bit (bit_of (at b n)) (p.cost n))

  pub full_worth : fixed_below p.vars b ≡ true → worth p b [] ≡ pos 16 *ℤ cost_of p (bits p b)
  full_worth e = omega (arith, ints, full_sum p.vars e)

  pub full_closes : (cost bound : ℕ) → fixed_below p.vars b ≡ true → pos cost ≡ cost_of p (bits p b) → bound ≤ cost → Closes p b [] bound
  full_closes cost bound e is le = omega (arith, ints, full_worth e)

-- ## A violated row

max_high : (n : ℕ) → int_max (pos 0) (pos n) ≡ pos n
max_high n = grind (arith, ints)

max_low : (z : ℤ) → z ≤ℤ pos 0 → int_max (pos 0) z ≡ pos 0
max_low z h = grind (arith, ints)

times_greatest : (l : ℕ) (a : ℤ) → pos l *ℤ int_max (pos 0) a ≡ int_max (pos 0) (pos l *ℤ a)
times_greatest l (pos n) = ap (λ (z : ℤ). pos l *ℤ z) (max_high n) ∙ sym (max_high (l * n))
times_greatest l (negsuc n) = let low : int_max (pos 0) (pos l *ℤ negsuc n) ≡ pos 0 = max_low (pos l *ℤ negsuc n) (omega (arith, ints)) in omega (arith, ints)

paid_free : (c z : ℤ) → pos 0 ≤ℤ c → pos 0 ≤ℤ (int_min (pos 0) (pos 16 *ℤ c -ℤ (z +ℤ pos 0)) +ℤ int_max (pos 0) z)
paid_free c z h = grind (arith, ints)

-- what a variable brings to the dual value, and what it brings to the row
paid : (o : Option Bool) (l : ℕ) (c a : ℤ) → pos 0 ≤ℤ c → pos 0 ≤ℤ (least o (pos 16 *ℤ c -ℤ (pos l *ℤ a +ℤ pos 0)) +ℤ pos l *ℤ greatest o a)
paid None l c a h = subst (λ (z : ℤ). pos 0 ≤ℤ (int_min (pos 0) (pos 16 *ℤ c -ℤ (pos l *ℤ a +ℤ pos 0)) +ℤ z)) (sym (times_greatest l a)) (paid_free c (pos l *ℤ a) h)
paid (Some true) l c a h = omega (arith, ints)
paid (Some false) l c a h = omega (arith, ints)

module _ {R : Type 0} (p : Program R) (b : Box) (r : R) (l : ℕ) (costs : (v : ℕ) → v < p.vars → pos 0 ≤ℤ p.cost v) where
  paid_sum : (n : ℕ) → n ≤ p.vars → pos 0 ≤ℤ (sum_to n (λ v. least (at b v) (pos 16 *ℤ p.cost v -ℤ (pos l *ℤ p.coef r v +ℤ pos 0))) +ℤ pos l *ℤ sum_to n (λ v. greatest (at b v) (p.coef r v)))
  paid_sum zero le = omega (arith, ints)
  paid_sum (suc n) le =
      omega (arith, ints, paid_sum n (omega arith), paid (at b n) l (p.cost n) (p.coef r n) (costs n (omega arith)), times_sum (pos l) (sum_to n (λ v. greatest (at b v) (p.coef r v))) (greatest (at b n) (p.coef r n)))

  above : (a c : ℤ) → int_lt a c ≡ true → (a +ℤ pos 1) ≤ℤ c
  above a c e = omega (arith, ints)

  pub violated_worth : violated p b r ≡ true → pos l ≤ℤ worth p b ((r, l) ∷ [])
  violated_worth e =
      let short : (most p b r +ℤ pos 1) ≤ℤ p.rhs r = above (most p b r) (p.rhs r) e in
      omega (arith, ints, scaled_le l (most p b r +ℤ pos 1) (p.rhs r) short, times_sum (pos l) (most p b r) (pos 1), paid_sum p.vars (omega arith))

  pub violated_closes : (bound : ℕ) → violated p b r ≡ true → 16 * bound < l + 16 → Closes p b ((r, l) ∷ []) bound
  violated_closes bound e lt = omega (arith, ints, violated_worth e)
