use Rattle.std.proofs.Common.{◌≡◌, ◌++◌}
use Rattle.shared_search.proofs.closing.append_nodes.Given as goal

abbrev pub invariant-loop-node : goal.invariant-loop-node
invariant-loop-node l = l.to.items ++ l.node-iterator.rest.items ≡ l.fn.to.items ++ l.fn.from.items
