use Rattle.std.proofs.Common.{◌∷◌, [], arith, refl}
use Rattle.proof_trees.specs.Boxes.{free_box}
use Rattle.proof_trees.specs.OneVariable.{one_variable}
use Rattle.proof_trees.proofs.OneLeaf.{row_is, free_inside}
use Rattle.proof_trees.proofs.tests.is_fixed_at_one.Goals as goal

pub returns : goal.returns
returns c = λ x sol. c.tightening_keeps_solutions.ensures one_variable (free_box one_variable) (0 ∷ []) refl row_is x sol (free_inside x) 0 (omega arith)
