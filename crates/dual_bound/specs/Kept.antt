-- What a table keeps of a program's rows. No public clause cites this module.
use Rattle.std.specs.Prelude.{◌≡◌, ℕ, ◌+◌, ◌<◌, ◌≤◌, ◌^◌, true, List, [], length, slice_get, slice_index_or, Some, ℤ, unsigned_abs}
use Rattle.zero_one_rows.specs.declared.program.Row.{Row}
use Rattle.zero_one_rows.specs.Variables.{Voyage}
use Rattle.zero_one_rows.specs.Rows.{whole}
use Rattle.zero_one_rows.specs.Counted.{all_rows, base_rows}
use Rattle.row_matrix.specs.declared.entries.Term.{Term}
use Rattle.row_matrix.specs.Terms.{AreTerms}
use Rattle.crossing_pricing.specs.Gaps.{number_at}

-- a row of the program with its right side
pub record IsRight (m : Voyage) (r : Row) (side : ℤ) : Type 0 where
  pub row : (whole m).has r ≡ true
  pub right : side ≡ (whole m).rhs r
  pub low : unsigned_abs side ≤ 2 ^ 37

-- the right sides of the first rows
abbrev pub AreRights : Voyage → List ℤ → Type 0
AreRights m rights = (k : ℕ) (r : Row) → k < length rights → slice_get (all_rows m) k ≡ Some r → IsRight m r (number_at rights k)

-- the terms of the first rows behind the base rows
abbrev pub AreCrossing : Voyage → List (List Term) → Type 0
AreCrossing m lists = (k : ℕ) (r : Row) → k < length lists → slice_get (all_rows m) (length (base_rows m) + k) ≡ Some r → AreTerms m r (slice_index_or lists k [])
