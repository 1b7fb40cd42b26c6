use Rattle.std.proofs.Common.{◌≡◌, map, take}
use Rattle.row_matrix.specs.Counted.{entry_by}
use Rattle.row_matrix.proofs.counting.entries_of.Given as goal

abbrev pub invariant-loop-v : goal.invariant-loop-v
invariant-loop-v l = l.entries ≡ map (entry_by l.z l.number l.weights) (take l.v-index l.vars)
