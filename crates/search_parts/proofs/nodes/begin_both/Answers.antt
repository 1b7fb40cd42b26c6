use Rattle.std.proofs.Common.{sym, subst, ◌∙◌}
use Rattle.zero_one_rows.specs.Variables.{Voyage}
use Rattle.node_solver.specs.Work.{IsNode}
use Rattle.search_parts.proofs.nodes.begin_both.Goals as goal

pub begin-requires-in-loop-clause-trail : goal.begin-requires-in-loop-clause-trail
begin-requires-in-loop-clause-trail c = subst (λ (m : Voyage). IsNode m c.args.node.now) (sym (c.begin.ensures.same ∙ c.loop.invariant)) c.requires.trail
