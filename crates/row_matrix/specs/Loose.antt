-- What contracts see of a loose box.
use Rattle.proof_trees.specs.Boxes.{Box}
use Rattle.zero_one_rows.specs.Variables.{Voyage}

-- the voyage, and the values that are known (the box)
pub record Loose : Type 0 where
  pub voyage : Voyage
  pub known : Box
