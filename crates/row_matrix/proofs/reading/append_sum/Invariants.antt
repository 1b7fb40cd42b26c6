use Rattle.std.proofs.Common.{◌≡◌, ◌++◌, map, take}
use Rattle.row_matrix.specs.Counted.{term_of}
use Rattle.row_matrix.proofs.reading.append_sum.Given as goal

abbrev pub invariant-loop-entry : goal.invariant-loop-entry
invariant-loop-entry l = l.terms.items ≡ l.fn.terms.items ++ map (term_of l.minus) (take l.entry-index l.entries)
