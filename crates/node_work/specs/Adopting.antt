-- A box that goes on to another one by some of its variables. No public clause cites this module.
use Rattle.std.specs.Prelude.{ℕ, Bool, List, [], ◌∷◌, Option, Some, None, slice_set}
use Rattle.proof_trees.specs.Boxes.{Box, at}

abbrev pub or_else : Option Bool → Option Bool → Option Bool
or_else None o = o
or_else (Some y) o = Some y

-- where the variable is free, it becomes what it is in the other box
abbrev pub adopted : Box → Box → ℕ → Box
adopted b c x = slice_set b x (or_else (at b x) (at c x))

abbrev pub adopted_all : Box → Box → List ℕ → Box
adopted_all b c [] = b
adopted_all b c (x ∷ xs) = adopted_all (adopted b c x) c xs
