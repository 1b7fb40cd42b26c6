-- A program of one variable, which costs 1, and one row, by which it is at least 1; and a tree of one leaf that proves the cost 1. For tests.
use Rattle.std.specs.Prelude.{ℕ, true, List, [], ◌∷◌, pos, ◌==◌}
use Rattle.proof_trees.specs.Program.{Program}
use Rattle.proof_trees.specs.Trees.{Entry, Leaf}

abbrev pub one_variable : Program ℕ
one_variable = record { vars = 1; cost = λ v. pos 1; coef = λ r v. pos 1; rhs = λ r. pos 1; has = λ r. r == 0 }

abbrev pub leaf : List (Entry ℕ)
leaf = record { from_zero = true; steps = []; raises = (0, pos 16) ∷ []; end = Leaf } ∷ []
