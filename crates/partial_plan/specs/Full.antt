-- Full boxes: what they cost, and whether they break a base row.
use Rattle.std.specs.Prelude.{◌≡◌, ℕ, Bool, true, false, Option, Some, None}
use Rattle.proof_trees.specs.Boxes.{Box, at, violated}
use Rattle.zero_one_rows.specs.declared.program.Row.{Row}
use Rattle.zero_one_rows.specs.Variables.{Voyage}
use Rattle.zero_one_rows.specs.Rows.{base, whole}

-- no base row is violated
abbrev pub BreaksNone : Voyage → Box → Type 0
BreaksNone m b = (r : Row) → (base m).has r ≡ true → violated (whole m) b r ≡ false

abbrev pub is_one : Option Bool → Bool
is_one None = false
is_one (Some y) = y

-- the assignment of a full box; where a variable is free, it is left out
abbrev pub ones : Box → ℕ → Bool
ones b v = is_one (at b v)
