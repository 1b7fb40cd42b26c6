-- A full box that violates no base row is a solution.
use Rattle.std.proofs.Common.{◌≡◌, ℕ, zero, suc, ◌<◌, Bool, true, false, not, ◌&&◌, List, [], ◌∷◌, Option, Some, None, ℤ, pos, negsuc, ◌≤ℤ◌, int_lt, refl, subst, arith}
use borrow.Author.Differences.{ints}
use Rattle.proof_trees.specs.Program.{Program, sum_to, where_set, Meets}
use Rattle.proof_trees.specs.Boxes.{Box, at, greatest, most, violated}
use Rattle.search_core.specs.Bags.{Every}
use Rattle.search_core.specs.Machine.{bit_of, is_fixed, fixed_below, nat_of, bits, breaks_none, BaseSolves, NoneNegative}
use Rattle.search_core.proofs.Rule.{OffersSolve}

and_left : (a b : Bool) → (a && b) ≡ true → a ≡ true
and_left true b e = refl
and_left false b e = cc

and_right : (a b : Bool) → (a && b) ≡ true → b ≡ true
and_right true b e = e
and_right false b e = cc

not_true : (a : Bool) → not a ≡ true → a ≡ false
not_true true e = cc
not_true false e = refl

fixed_greatest : (o : Option Bool) (z : ℤ) → is_fixed o ≡ true → greatest o z ≡ where_set (bit_of o) z
fixed_greatest None z e = absurd (cc)
fixed_greatest (Some y) z e = refl

most_fixed : (b : Box) (n : ℕ) (f : ℕ → ℤ) → fixed_below n b ≡ true → sum_to n (λ v. greatest (at b v) (f v)) ≡ sum_to n (λ v. where_set (bit_of (at b v)) (f v))
most_fixed b zero f e = refl
most_fixed b (suc n) f e = omega (arith, ints, most_fixed b n f (and_right (is_fixed (at b n)) (fixed_below n b) e), fixed_greatest (at b n) (f n) (and_left (is_fixed (at b n)) (fixed_below n b) e))

set_positive : (y : Bool) (z : ℤ) → pos 0 ≤ℤ z → pos 0 ≤ℤ where_set y z
set_positive true z h = h
set_positive false z h = omega (arith, ints)

sum_positive : (n : ℕ) (x : ℕ → Bool) (f : ℕ → ℤ) → ((v : ℕ) → v < n → pos 0 ≤ℤ f v) → pos 0 ≤ℤ sum_to n (λ v. where_set (x v) (f v))
sum_positive zero x f h = omega (arith, ints)
sum_positive (suc n) x f h = omega (arith, ints, sum_positive n x f (λ v lt. h v (omega arith)), set_positive (x n) (f n) (h n (omega arith)))

nat_of_positive : (z : ℤ) → pos 0 ≤ℤ z → z ≡ pos (nat_of z)
nat_of_positive (pos n) h = refl
nat_of_positive (negsuc n) h = absurd (omega (arith, ints))

met : (a b : ℤ) → int_lt a b ≡ false → b ≤ℤ a
met a b e = omega (arith, ints)

module _ {R : Type 0} (same : R → R → Bool) (p : Program R) (base : List R) where
  meets_each : (b : Box) (rs : List R) → fixed_below p.vars b ≡ true → breaks_none p rs b ≡ true → Every (Meets p (bits p b)) rs
  meets_each b [] full none = tt
  meets_each b (r ∷ rs) full none =
      let meets : p.rhs r ≤ℤ most p b r = met (most p b r) (p.rhs r) (not_true (violated p b r) (and_left (not (violated p b r)) (breaks_none p rs b) none)) in
      (subst (λ (z : ℤ). p.rhs r ≤ℤ z) (most_fixed b p.vars (p.coef r) full) meets, meets_each b rs full (and_right (not (violated p b r)) (breaks_none p rs b) none))

  pub offers_solve : BaseSolves p base → NoneNegative p → OffersSolve same p base
  offers_solve solves costs b full = (
    solves (bits p b) (meets_each b base (and_left (fixed_below p.vars b) (breaks_none p base b) full) (and_right (fixed_below p.vars b) (breaks_none p base b) full)),
    nat_of_positive _ (sum_positive p.vars (bits p b) p.cost costs),
  )
