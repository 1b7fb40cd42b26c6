-- What meets the base rows meets every row, and no cost is negative.
use Rattle.std.proofs.Common.{ℕ, zero, suc, ◌<◌, List, [], ◌∷◌, length, slice_index_or, pos, ◌≤ℤ◌, subst, arith}
use Rattle.std.specs.Prelude.{Contains}
use borrow.Author.Differences.{ints}
use Rattle.zero_one_rows.specs.Variables.{Voyage, var, var_cost}
use Rattle.zero_one_rows.specs.Rows.{whole, CrossingRowsHold}
use Rattle.zero_one_rows.specs.Counted.{base_rows}
use Rattle.zero_one_rows.proofs.EveryRow.{lists_base_rows}
use Rattle.proof_trees.specs.Program.{Meets}
use Rattle.search_core.specs.Bags.{Every}
use Rattle.search_core.specs.Machine.{BaseSolves, NoneNegative}

every_at : {A : Type 0} (P : A → Type 0) (xs : List A) (k : ℕ) (d : A) → Every P xs → k < length xs → P (slice_index_or xs k d)
every_at P [] k d h lt = absurd (omega arith)
every_at P (x ∷ xs) zero d h lt = h.0
every_at P (x ∷ xs) (suc k) d h lt = every_at P xs k d h.1 (omega arith)

every_contains : {A : Type 0} (P : A → Type 0) (xs : List A) (a : A) → Every P xs → Contains xs a → P a
every_contains P xs a h has = subst P has.2 (every_at P xs has.0 a h has.1)

from_zero : (n : ℕ) → pos 0 ≤ℤ pos n
from_zero n = omega (arith, ints)

module _ (m : Voyage) where
  pub no_cost_negative : NoneNegative (whole m)
  no_cost_negative v lt = from_zero (var_cost m (var m v))

  pub base_solves : CrossingRowsHold m → BaseSolves (whole m) (base_rows m)
  base_solves crossing x meets = crossing x (λ r has. every_contains (Meets (whole m) x) (base_rows m) r meets ((lists_base_rows m r).1 has))
