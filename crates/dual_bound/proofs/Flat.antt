-- Rows by what they gain: which are flat, which rise, and when all are flat.
use Rattle.std.proofs.Common.{◌≡◌, ℕ, ◌<◌, ◌≤◌, ◌^◌, ◌⊎◌, inl, inr, true, false, Some, length, ℤ, pos, ◌+ℤ◌, ◌≤ℤ◌, ◌<ℤ◌, arith, sym, ◌∙◌, ap, List, [], ◌∷◌, suc}
use Rattle.std.specs.Prelude.{slice_get}
use lib.Signed.{le_z}
use borrow.Author.Differences.{ints}
use Rattle.stow_data.proofs.Members.{Member}
use Rattle.zero_one_rows.specs.declared.program.Row.{Row}
use Rattle.zero_one_rows.specs.Variables.{Voyage}
use Rattle.zero_one_rows.specs.Rows.{whole}
use Rattle.zero_one_rows.specs.Counted.{all_rows}
use Rattle.zero_one_rows.proofs.EveryRow.{row_listed}
use Rattle.proof_trees.specs.Boxes.{Box}
use Rattle.proof_trees.specs.Multipliers.{Multipliers, worth, amount_of}
use Rattle.certificate.specs.Entries.{same_row}
use Rattle.certificate.specs.Stuck.{IsStuck}
use Rattle.dual_bound.specs.Costs.{Gains}
use Rattle.dual_bound.specs.Rising.{raised_by, IsFlat}

not_more : (x y z : ℤ) → x ≡ y +ℤ z → (pos 0 <ℤ z → ⊥) → x ≤ℤ y
not_more x y z e h = grind (arith, ints)

pub above : (z : ℤ) → le_z z (pos 0) ≡ false → pos 0 <ℤ z
above z h = grind (arith, ints)

module _ (m : Voyage) (b : Box) (ms : Multipliers Row) where
  pub flat_by_gain : (r : Row) (gain : ℤ) → Gains m b ms r 1 gain → (pos 0 <ℤ gain → ⊥) → IsFlat m b ms r
  flat_by_gain r gain e h low = not_more (worth (whole m) b (raised_by ms r 1)) (worth (whole m) b ms) gain e h

  pub flat_at_most : (r : Row) → 2 ^ 40 ≤ amount_of same_row ms r → IsFlat m b ms r
  flat_at_most r le low = absurd (omega arith)

  pub rises_by_gain : (r : Row) (more : ℕ) (gain : ℤ) → Gains m b ms r more gain → pos 0 <ℤ gain → worth (whole m) b ms <ℤ worth (whole m) b (raised_by ms r more)
  rises_by_gain r more gain e h = omega (arith, ints, e)

  pub not_stuck : (r : Row) → (whole m).has r ≡ true → amount_of same_row ms r < 2 ^ 40 → worth (whole m) b ms <ℤ worth (whole m) b (raised_by ms r 1) → IsStuck m b ms → ⊥
  not_stuck r has low up stuck = omega (arith, ints, stuck r has low)

  member_at : (xs : List Row) (r : Row) → Member r xs → (k : ℕ) × (k < length xs) × (slice_get xs k ≡ Some r)
  member_at [] r h = absurd h
  member_at (x ∷ xs) r (inl e) = (0, omega arith, ap Some (sym e))
  member_at (x ∷ xs) r (inr h) = let p = member_at xs r h in (suc p.0, omega (arith, p.1), p.2)

  pub all_flat : ((k : ℕ) (r : Row) → k < length (all_rows m) → slice_get (all_rows m) k ≡ Some r → IsFlat m b ms r) → IsStuck m b ms
  all_flat each r has low = let p = member_at (all_rows m) r (row_listed m r has) in each p.0 r p.1 p.2 low

  -- the rows from a number on, and those before it
  pub flat_both : (from rows : ℕ) → rows ≡ length (all_rows m) → ((k : ℕ) (r : Row) → from ≤ k → k < rows → slice_get (all_rows m) k ≡ Some r → IsFlat m b ms r) → ((k : ℕ) (r : Row) → 0 ≤ k → k < from → slice_get (all_rows m) k ≡ Some r → IsFlat m b ms r) → IsStuck m b ms
  flat_both from rows all behind before = all_flat (λ k r lt at. by k r at (split k from) lt)
    where
      split : (a n : ℕ) → (a < n) ⊎ (n ≤ a)
      split a n = grind arith

      by : (k : ℕ) (r : Row) → slice_get (all_rows m) k ≡ Some r → (k < from) ⊎ (from ≤ k) → k < length (all_rows m) → IsFlat m b ms r
      by k r at (inl h) lt = before k r (omega arith) h at
      by k r at (inr h) lt = behind k r h (omega arith) at

-- the row at a place of the list
pub same_place : (xs : List Row) (k : ℕ) (q r : Row) → slice_get xs k ≡ Some q → slice_get xs k ≡ Some r → q ≡ r
same_place xs k q r e h = let s : Some q ≡ Some r = sym e ∙ h in cc

pub at_most_none : (z : ℤ) → le_z z (pos 0) ≡ true → z ≤ℤ pos 0
at_most_none z h = grind (arith, ints)
