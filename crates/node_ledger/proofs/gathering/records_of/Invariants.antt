use Rattle.std.proofs.Common.{◌≡◌, ◌++◌, map}
use Rattle.std.specs.Vec.Iter.{into_iter_items}
use Rattle.certificate.specs.declared.journals.Entry.{Entry}
use Rattle.node_ledger.proofs.gathering.records_of.Given as goal

abbrev pub invariant-loop-entry : goal.invariant-loop-entry
invariant-loop-entry l = l.tree ++ map (λ (e : Entry). e.record_of) (into_iter_items l.entry-iterator) ≡ map (λ (e : Entry). e.record_of) l.fn.nodes.items
