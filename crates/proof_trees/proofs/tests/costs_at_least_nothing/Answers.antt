use Rattle.std.proofs.Common.{arith}
use Rattle.std.specs.Prelude.{ℕ, ◌==◌}
use Rattle.proof_trees.specs.OneVariable.{one_variable, leaf}
use Rattle.proof_trees.proofs.OneLeaf.{leaf_proves}
use Rattle.proof_trees.proofs.tests.costs_at_least_nothing.Goals as goal

pub returns : goal.returns
returns c = λ x sol. c.weak_duality.ensures.tree (λ (a b : ℕ). a == b) one_variable leaf 0 (c.lesser_bounds.ensures (λ (a b : ℕ). a == b) one_variable leaf 1 0 (omega arith) leaf_proves) x sol
