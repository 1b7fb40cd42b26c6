-- The program of a voyage, as the search takes it.
use Rattle.std.proofs.Common.{◌≡◌, ℕ, true, pos, ◌≤ℤ◌, arith, subst}
use borrow.Author.Differences.{ints}
use Rattle.zero_one_rows.specs.declared.program.Row.{Row}
use Rattle.zero_one_rows.specs.Variables.{Voyage, var, var_cost}
use Rattle.zero_one_rows.specs.Rows.{whole}
use Rattle.certificate.specs.Entries.{same_row}
use Rattle.certificate.proofs.RowsAlike.{same_equal, same_itself}
use Rattle.search_core.specs.Machine.{NoneNegative}
use Rattle.search_core.specs.Outcomes.{Tells}

from_zero : (n : ℕ) → pos 0 ≤ℤ pos n
from_zero n = omega (arith, ints)

-- no cost is negative
pub costs_from : (m : Voyage) → NoneNegative (whole m)
costs_from m v l = from_zero (var_cost m (var m v))

-- the comparison of rows tells them apart
pub tells_rows : Tells same_row
tells_rows r s = ((λ h. same_equal r s h), (λ e. subst (λ (x : Row). same_row r x ≡ true) e (same_itself r)))
