-- Each base row is its one or two signed sums.
use Rattle.std.specs.Prelude.{◌≡◌, ℕ, ◌<◌, true, false, ◌&&◌, Option, Some, None, length, ℤ, pos, ◌+ℤ◌, ◌-ℤ◌}
use Rattle.proof_trees.specs.Boxes.{Box, at, fixed, most}
use Rattle.zero_one_rows.specs.declared.program.Var.{Var}
use Rattle.zero_one_rows.specs.declared.program.Row.{Row}
use Rattle.zero_one_rows.specs.Variables.{Voyage, variables, var, is_var}
use Rattle.zero_one_rows.specs.Rows.{coef, has, is_base, base}
use Rattle.row_sums.specs.declared.sums.Sum.{Sum}
use Rattle.row_sums.specs.declared.sums.Part.{Part}
use Rattle.row_sums.specs.declared.sums.Parts.{Parts}
use Rattle.row_sums.specs.Sums.{parts, holds, in_sum, in_part}
use Rattle.row_sums.specs.Values.{least_of, most_of, most_of_parts}

abbrev pub in_second : Voyage → Option Part → Var → ℤ
in_second m None x = pos 0
in_second m (Some p) x = in_part m p x

-- the coefficient of a variable in a row, by the row's sums
abbrev pub in_parts : Voyage → Parts → Var → ℤ
in_parts m ps x = in_part m ps.first x +ℤ in_second m ps.second x

-- each base row has its sums
abbrev pub HasParts : Type 0
HasParts = (m : Voyage) (r : Row) → is_base r ≡ true → (ps : Parts) × (parts m r ≡ Some ps)

-- a row's coefficient at a variable is the signed count of the variable in those of its sums that hold it
abbrev pub AreSums : Type 0
AreSums = (m : Voyage) (r : Row) (ps : Parts) → has m r ≡ true → parts m r ≡ Some ps → (x : Var) → coef m r x ≡ in_parts m ps x

-- the two sums of a row share no variable
abbrev pub ShareNone : Type 0
ShareNone = (m : Voyage) (r : Row) (ps : Parts) (second : Part) → has m r ≡ true → parts m r ≡ Some ps → ps.second ≡ Some second
    → (x : Var) → is_var m x ≡ true → (holds m ps.first.sum x && holds m second.sum x) ≡ false

-- so the greatest value of a row over a box is that of its sums
abbrev pub MostBySums : Type 0
MostBySums = (m : Voyage) (r : Row) (ps : Parts) (b : Box) → has m r ≡ true → parts m r ≡ Some ps → most (base m) b r ≡ most_of_parts m b ps

-- fixing a free variable to 0 changes greatest values alone, and so only rows that have its sum with plus
abbrev pub FixedToZero : Type 0
FixedToZero = (m : Voyage) (b : Box) (a : Sum) (v : ℕ) → v < length (variables m) → v < length b → at b v ≡ None
    → (least_of m (fixed b v false) a ≡ least_of m b a) × (most_of m (fixed b v false) a ≡ most_of m b a -ℤ in_sum m a (var m v))

-- fixing it to 1 changes least values alone, and so only rows that have its sum with minus
abbrev pub FixedToOne : Type 0
FixedToOne = (m : Voyage) (b : Box) (a : Sum) (v : ℕ) → v < length (variables m) → v < length b → at b v ≡ None
    → (most_of m (fixed b v true) a ≡ most_of m b a) × (least_of m (fixed b v true) a ≡ least_of m b a +ℤ in_sum m a (var m v))
