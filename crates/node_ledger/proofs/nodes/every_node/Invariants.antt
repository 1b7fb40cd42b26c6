use Rattle.std.proofs.Common.{◌≡◌, ◌++◌}
use Rattle.std.specs.Vec.Iter.{into_iter_items}
use Rattle.node_ledger.specs.Gathered.{entries}
use Rattle.node_ledger.proofs.nodes.every_node.Given as goal

abbrev pub invariant-loop-journal : goal.invariant-loop-journal
invariant-loop-journal l = l.nodes.items ++ entries (into_iter_items l.journal-iterator) ≡ entries l.fn.journals
