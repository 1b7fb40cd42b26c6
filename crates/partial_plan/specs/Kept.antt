-- What contracts see of a kept box.
use Rattle.std.specs.Prelude.{ℕ, List}
use Rattle.proof_trees.specs.Boxes.{Box}
use Rattle.zero_one_rows.specs.Variables.{Voyage}

-- the voyage, the values that are known (the box), and the variables that were fixed in order
pub record Kept : Type 0 where
  pub voyage : Voyage
  pub known : Box
  pub undo : List ℕ
