use Rattle.zero_one_rows.specs.declared.program.Row.{Row}
use Rattle.proof_trees.specs.Multipliers.{Multipliers}
use Rattle.event_search.specs.Counting.{Tallies}
use Rattle.event_search.proofs.Raising.{Halfway}
use Rattle.event_search.proofs.tally.Tally.raise_all.Given as goal

abbrev pub invariant-loop-raise : goal.invariant-loop-raise
invariant-loop-raise l = (ms : Multipliers Row) → Tallies l.model ms l.fn.self → Halfway l.model l.raises ms l.raise-index l.self
