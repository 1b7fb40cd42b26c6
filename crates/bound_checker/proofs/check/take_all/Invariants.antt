use Rattle.std.proofs.Common.{◌≡◌, ◌+◌, drop, map}
use Rattle.certificate.specs.Entries.{entry_of}
use Rattle.bound_checker.specs.Faults.{first_fault}
use Rattle.bound_checker.proofs.Walks.{Reaches}
use Rattle.bound_checker.proofs.check.take_all.Given as goal

abbrev pub invariant-loop-entry : goal.invariant-loop-entry
invariant-loop-entry l = record {
  node : l.node ≡ l.entry-index;
  at : Reaches l.model l.bounds.low l.bounds.high (first_fault l.model l.tree) l.best (l.node + 1) l.walk (map (entry_of l.model) (drop l.entry-index l.tree));
}
