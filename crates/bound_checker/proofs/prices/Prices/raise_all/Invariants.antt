use Rattle.std.proofs.Common.{map, take, Ok, List}
use Rattle.zero_one_rows.specs.declared.program.Row.{Row}
use Rattle.zero_one_rows.specs.Rows.{whole}
use Rattle.proof_trees.specs.Multipliers.{Multipliers}
use Rattle.bound_checker.specs.declared.prices.Change.{Change}
use Rattle.certificate.specs.Entries.{raise_of}
use Rattle.bound_checker.specs.Faults.{raised_rows}
use Rattle.bound_checker.specs.Prices.{Holds, Held}
use Rattle.bound_checker.proofs.prices.Prices.raise_all.Given as goal

abbrev pub invariant-loop-raise : goal.invariant-loop-raise
invariant-loop-raise l = (first ms : Multipliers Row) (k : List Change) → Holds l.model l.b first k ms l.fn.self → Held (λ ns. Holds l.model l.b first k ns l.self) (raised_rows (whole l.model) l.node (Ok ms) (map raise_of (take l.raise-index l.raises)))
