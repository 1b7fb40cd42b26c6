-- A row that is met where the reduced costs are least gains nothing.
use Rattle.std.proofs.Common.{◌≡◌, ℕ, zero, suc, ◌<◌, Bool, true, false, List, [], ◌∷◌, ◌++◌, Option, Some, None, length, ℤ, pos, ◌+ℤ◌, ◌*ℤ◌, ◌≤ℤ◌, arith, refl, ap}
use Rattle.std.specs.Prelude.{slice_get, int_lt, cond}
use borrow.Author.Differences.{ints}
use Rattle.zero_one_rows.specs.declared.program.Row.{Row}
use Rattle.zero_one_rows.specs.Variables.{Voyage, variables}
use Rattle.zero_one_rows.specs.Rows.{whole}
use Rattle.zero_one_rows.specs.Counted.{row_lists, base_rows, all_rows, base_in, rows_in, cross_rows}
use Rattle.proof_trees.specs.Program.{sum_to}
use Rattle.proof_trees.specs.Boxes.{Box, at, greatest, most, violated}
use Rattle.proof_trees.specs.Multipliers.{Multipliers}
use Rattle.row_matrix.specs.Leaning.{cheaper, Leans}
use Rattle.dual_bound.specs.declared.costs.Costs.{Costs}
use Rattle.crossing_pricing.specs.Gaps.{number_at, gap}
use Rattle.dual_bound.specs.Costs.{Priced, gaps_of}
use Rattle.dual_bound.specs.Rising.{IsFlat}
use Rattle.dual_bound.proofs.Pricing.{gain_is}
use Rattle.dual_bound.proofs.Flat.{flat_by_gain}

once : (z : ℤ) → pos 1 *ℤ z ≡ z
once z = omega (arith, ints)

-- what a variable gains by a coefficient is no more than what it takes from the row at its cheaper value
none_low : (d a : ℤ) (up down : Bool) → int_lt (pos 0) d ≡ up → int_lt d (pos 0) ≡ down → (gap None d a +ℤ greatest (cond up (Some false) (cond down (Some true) None)) a) ≤ℤ pos 0
none_low d a true down e k = grind (arith, ints)
none_low d a false true e k = grind (arith, ints)
none_low d a false false e k = grind (arith, ints)

gap_low : (o : Option Bool) (d a : ℤ) → (gap o d a +ℤ greatest (cheaper o d) a) ≤ℤ pos 0
gap_low (Some true) d a = omega (arith, ints)
gap_low (Some false) d a = omega (arith, ints)
gap_low None d a = none_low d a (int_lt (pos 0) d) (int_lt d (pos 0)) refl refl

sum_low : (n : ℕ) (f g : ℕ → ℤ) → ((v : ℕ) → v < n → (f v +ℤ g v) ≤ℤ pos 0) → (sum_to n f +ℤ sum_to n g) ≤ℤ pos 0
sum_low zero f g h = omega (arith, ints)
sum_low (suc n) f g h = omega (arith, ints, sum_low n f g (λ v p. h v (omega arith)), h n (omega arith))

front_back : (xs ys : List Row) (k : ℕ) (r : Row) → k < length xs → slice_get (xs ++ ys) k ≡ Some r → slice_get xs k ≡ Some r
front_back [] ys k r lt e = absurd (omega arith)
front_back (x ∷ xs) ys zero r lt e = e
front_back (x ∷ xs) ys (suc k) r lt e = front_back xs ys k r (omega arith) e

met_low : (most rhs : ℤ) → int_lt most rhs ≡ false → rhs ≤ℤ most
met_low most rhs h = grind (arith, ints)

module _ (m : Voyage) where
  pub base_there : (k : ℕ) (r : Row) → k < length (base_rows m) → slice_get (all_rows m) k ≡ Some r → slice_get (base_rows m) k ≡ Some r
  unfolding rows_in
  base_there k r lt e = front_back (base_in (row_lists m)) (cross_rows (row_lists m)) k r lt e

  pub met_flat : (b : Box) (ms : Multipliers Row) (c : Costs) (minimizer : Box) (r : Row) → length b ≡ length (variables m) → Priced m b ms c → Leans b c.reduced.items minimizer → violated (whole m) minimizer r ≡ false → IsFlat m b ms r
  met_flat b ms c minimizer r len priced leans met =
      let gain : ℤ = pos 1 *ℤ (whole m).rhs r +ℤ gaps_of m b c.reduced.items r (pos 1) in
      let each : (v : ℕ) → v < length (variables m) → (gap (at b v) (number_at c.reduced.items v) (pos 1 *ℤ (whole m).coef r v) +ℤ greatest (at minimizer v) ((whole m).coef r v)) ≤ℤ pos 0 = λ v lt.
      let e : at minimizer v ≡ cheaper (at b v) (number_at c.reduced.items v) = leans.each v (omega (arith, len, lt)) in
      let g : gap (at b v) (number_at c.reduced.items v) (pos 1 *ℤ (whole m).coef r v) ≡ gap (at b v) (number_at c.reduced.items v) ((whole m).coef r v) = ap (λ (z : ℤ). gap (at b v) (number_at c.reduced.items v) z) (once ((whole m).coef r v)) in
      let h : greatest (at minimizer v) ((whole m).coef r v) ≡ greatest (cheaper (at b v) (number_at c.reduced.items v)) ((whole m).coef r v) = ap (λ (o : Option Bool). greatest o ((whole m).coef r v)) e in
      omega (arith, ints, g, h, gap_low (at b v) (number_at c.reduced.items v) ((whole m).coef r v)) in
      let low : (gaps_of m b c.reduced.items r (pos 1) +ℤ most (whole m) minimizer r) ≤ℤ pos 0 = sum_low (length (variables m)) (λ v. gap (at b v) (number_at c.reduced.items v) (pos 1 *ℤ (whole m).coef r v)) (λ v. greatest (at minimizer v) ((whole m).coef r v)) each in
      let side : (whole m).rhs r ≤ℤ most (whole m) minimizer r = met_low (most (whole m) minimizer r) ((whole m).rhs r) met in
      flat_by_gain m b ms r gain (gain_is m b ms r 1 c gain priced refl) (λ up. omega (arith, ints, up, low, side, once ((whole m).rhs r)))
