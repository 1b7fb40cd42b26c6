use Rattle.std.proofs.Common.{◌≡◌, map, take}
use Rattle.zero_one_rows.specs.declared.program.Var.{Var}
use Rattle.zero_one_rows.specs.Variables.{kind}
use Rattle.row_matrix.proofs.counting.weights_of.Given as goal

abbrev pub invariant-loop-x : goal.invariant-loop-x
invariant-loop-x l = l.weights ≡ map (λ (x : Var). (kind l.sums x.kind).kg) (take l.x-index l.vars)
