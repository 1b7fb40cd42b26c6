use Rattle.std.proofs.Common.{◌≡◌, ◌++◌, map}
use Rattle.std.specs.Vec.Iter.{into_iter_items}
use Rattle.node_ledger.specs.Preorder.{left_node}
use Rattle.node_ledger.proofs.nodes.add_left.Given as goal

abbrev pub invariant-loop-path : goal.invariant-loop-path
invariant-loop-path l = l.nodes.items ++ map left_node (into_iter_items l.path-iterator) ≡ l.fn.nodes.items ++ map left_node l.fn.left
