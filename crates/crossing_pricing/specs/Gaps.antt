-- Numbers of variables, and what a variable's part of the dual value gains.
use Rattle.std.specs.Prelude.{ℕ, Bool, List, slice_index_or, Option, ℤ, pos, ◌-ℤ◌}
use Rattle.proof_trees.specs.Multipliers.{least}

abbrev pub number_at : List ℤ → ℕ → ℤ
number_at zs v = slice_index_or zs v (pos 0)

-- what a variable's part of the dual value gains where its reduced cost falls by a
abbrev pub gap : Option Bool → ℤ → ℤ → ℤ
gap o d a = least o (d -ℤ a) -ℤ least o d
