-- When all rows are flat: the base rows one by one, and the crossing rows by the most that one of them gains.
use Rattle.std.proofs.Common.{◌≡◌, ℕ, zero, suc, ◌<◌, ◌≤◌, ◌⊎◌, inl, inr, Bool, true, false, List, [], ◌∷◌, ◌++◌, Some, length, length-append, ℤ, pos, ◌+ℤ◌, ◌*ℤ◌, ◌≤ℤ◌, arith, refl, sym, ap}
use Rattle.std.specs.Prelude.{slice_get}
use borrow.Author.Differences.{ints}
use Rattle.zero_one_rows.specs.declared.program.Row.{Row}
use Rattle.zero_one_rows.specs.Variables.{Voyage}
use Rattle.zero_one_rows.specs.Rows.{whole, is_base}
use Rattle.zero_one_rows.specs.Counted.{row_lists, base_rows, all_rows, base_in, rows_in, cross_rows}
use Rattle.zero_one_rows.proofs.EveryRow.{base_listed}
use Rattle.proof_trees.specs.Boxes.{Box}
use Rattle.proof_trees.specs.Multipliers.{Multipliers}
use Rattle.dual_bound.specs.declared.costs.Costs.{Costs}
use Rattle.certificate.specs.Stuck.{IsStuck}
use Rattle.dual_bound.specs.Costs.{Priced, gaps_of}
use Rattle.dual_bound.specs.Rising.{IsFlat, AreCrossingFlat}
use Rattle.dual_bound.specs.CrossGains.{gain_of}
use Rattle.dual_bound.proofs.Pricing.{gain_is}
use Rattle.stow_data.proofs.Members.{Member}
use Rattle.dual_bound.proofs.Flat.{flat_by_gain}

front_at : (xs ys : List Row) (k : ℕ) (r : Row) → k < length xs → slice_get xs k ≡ Some r → slice_get (xs ++ ys) k ≡ Some r
front_at [] ys k r lt e = absurd (omega arith)
front_at (x ∷ xs) ys zero r lt e = e
front_at (x ∷ xs) ys (suc k) r lt e = front_at xs ys k r (omega arith) e

member_at : (xs : List Row) (r : Row) → Member r xs → (k : ℕ) × (k < length xs) × (slice_get xs k ≡ Some r)
member_at [] r h = absurd h
member_at (x ∷ xs) r (inl e) = (0, omega arith, ap Some (sym e))
member_at (x ∷ xs) r (inr h) = let p = member_at xs r h in (suc p.0, omega (arith, p.1), p.2)

module _ (m : Voyage) where
  pub base_few : length (base_rows m) ≤ length (all_rows m)
  unfolding rows_in
  base_few = omega (arith, length-append (base_in (row_lists m)) (cross_rows (row_lists m)))

  pub base_place : (k : ℕ) (r : Row) → k < length (base_rows m) → slice_get (base_rows m) k ≡ Some r → slice_get (all_rows m) k ≡ Some r
  unfolding rows_in
  base_place k r lt e = front_at (base_in (row_lists m)) (cross_rows (row_lists m)) k r lt e

  module _ (b : Box) (ms : Multipliers Row) where
    once : (z : ℤ) → pos 1 *ℤ z ≡ z
    once z = omega (arith, ints)

    pub crossing_flat : (c : Costs) (gain : ℤ) → Priced m b ms c → ((r : Row) → is_base r ≡ false → (whole m).has r ≡ true → gain_of m b c.reduced.items r ≤ℤ gain) → gain ≤ℤ pos 0 → AreCrossingFlat m b ms
    crossing_flat c gain priced each le r base has =
        let g : ℤ = gain_of m b c.reduced.items r in
        let is : g ≡ pos 1 *ℤ (whole m).rhs r +ℤ gaps_of m b c.reduced.items r (pos 1) = ap (λ (z : ℤ). z +ℤ gaps_of m b c.reduced.items r (pos 1)) (sym (once ((whole m).rhs r))) in
        flat_by_gain m b ms r g (gain_is m b ms r 1 c g priced is) (λ up. let low = each r base has in omega (arith, ints, up, low, le))

    all_by : ((k : ℕ) (r : Row) → k < length (base_rows m) → slice_get (all_rows m) k ≡ Some r → IsFlat m b ms r) → AreCrossingFlat m b ms → IsStuck m b ms
    all_by each crossing r has = by (is_base r) refl
      where
        by : (s : Bool) → is_base r ≡ s → IsFlat m b ms r
        by false e = crossing r e has
        by true e = let p = member_at (base_rows m) r (base_listed m r e has) in each p.0 r p.1 (base_place p.0 r p.1 p.2)

    -- the base rows from a number on, and those before it
    pub base_both : (from rows : ℕ) → rows ≡ length (base_rows m) → ((k : ℕ) (r : Row) → from ≤ k → k < rows → slice_get (all_rows m) k ≡ Some r → IsFlat m b ms r) → ((k : ℕ) (r : Row) → 0 ≤ k → k < from → slice_get (all_rows m) k ≡ Some r → IsFlat m b ms r) → AreCrossingFlat m b ms → IsStuck m b ms
    base_both from rows e behind before crossing = all_by (λ k r lt at. by k r at (split k from) lt) crossing
      where
        split : (a n : ℕ) → (a < n) ⊎ (n ≤ a)
        split a n = grind arith

        by : (k : ℕ) (r : Row) → slice_get (all_rows m) k ≡ Some r → (k < from) ⊎ (from ≤ k) → k < length (base_rows m) → IsFlat m b ms r
        by k r at (inl h) lt = before k r (omega arith) h at
        by k r at (inr h) lt = behind k r h (omega arith) at
