-- What the lists of a matrix hold.
use Rattle.std.specs.Prelude.{◌≡◌, ℕ, ◌<◌, [], All, length, slice_index_or}
use Rattle.zero_one_rows.specs.Variables.{variables, var}
use Rattle.row_sums.specs.declared.sums.Sum.{Sum}
use Rattle.row_sums.specs.declared.matrix.SumMatrix.TheInside.{Inside}
use Rattle.row_sums.specs.Matrix.{Matrix}
use Rattle.row_sums.specs.Numbers.{number, IsNumbering, IsThere}
use Rattle.row_sums.specs.Held.{variables_of, AreSumsOf, IsRising}

abbrev pub matrix_of : Inside → Matrix
matrix_of a = record { voyage = a.sums; numbering = a.numbering }

pub record IsBuilt (a : Inside) : Type 0 where
  pub numbering : IsNumbering a.sums a.numbering
  pub by_sum : (s : Sum) → IsThere a.sums s → slice_index_or a.variables (number a.numbering s) [] ≡ variables_of a.sums s
  pub inside : (n : ℕ) → All (λ v. v < length (variables a.sums)) (slice_index_or a.variables n [])
  pub by_variable : (v : ℕ) → v < length (variables a.sums) → AreSumsOf a.sums a.numbering (var a.sums v) (slice_index_or a.holders v [])
  pub rising : (v : ℕ) → v < length (variables a.sums) → IsRising (slice_index_or a.holders v [])
