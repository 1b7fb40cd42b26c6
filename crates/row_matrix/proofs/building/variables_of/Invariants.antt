use Rattle.std.proofs.Common.{◌≡◌, take}
use Rattle.zero_one_rows.specs.Variables.{variables}
use Rattle.row_matrix.proofs.building.variables_of.Given as goal

abbrev pub invariant-loop-v : goal.invariant-loop-v
invariant-loop-v l = l.vars ≡ take l.v (variables l.model)
