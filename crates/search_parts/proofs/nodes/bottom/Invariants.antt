use Rattle.std.proofs.Common.{◌≡◌}
use Rattle.node_solver.specs.Work.{IsNode}
use Rattle.search_parts.proofs.nodes.bottom.Given as goal

abbrev pub invariant-loop : goal.invariant-loop
invariant-loop l = record {
  same : l.state ≡ l.fn.state;
  trail : IsNode l.fn.state l.node;
}
