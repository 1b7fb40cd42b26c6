use Rattle.std.proofs.Common.{sym, subst}
use Rattle.zero_one_rows.specs.Variables.{Voyage}
use Rattle.node_solver.specs.Work.{IsNode}
use Rattle.search_parts.proofs.nodes.write_again.Goals as goal

pub begin_both-requires-clause-trail : goal.begin_both-requires-clause-trail
begin_both-requires-clause-trail c = subst (λ (m : Voyage). IsNode m c.in_ok-node.node) (sym c.bottom.ensures.same) c.in_ok-node.ensures.trail
