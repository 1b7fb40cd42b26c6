-- What a gauge shows: a voyage's program, a box of it, and multipliers of its rows.
use Rattle.zero_one_rows.specs.declared.program.Row.{Row}
use Rattle.zero_one_rows.specs.Variables.{Voyage}
use Rattle.proof_trees.specs.Boxes.{Box}
use Rattle.proof_trees.specs.Multipliers.{Multipliers}

pub record Gauging : Type 0 where
  pub voyage : Voyage
  pub box : Box
  pub multipliers : Multipliers Row
