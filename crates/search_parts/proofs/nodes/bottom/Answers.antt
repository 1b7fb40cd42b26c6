use Rattle.std.proofs.Common.{sym, subst, ◌∙◌}
use Rattle.zero_one_rows.specs.Variables.{Voyage}
use Rattle.node_solver.specs.Work.{IsNode}
use Rattle.search_parts.proofs.nodes.bottom.Goals as goal

pub go_down-requires-clause-trail : goal.go_down-requires-clause-trail
go_down-requires-clause-trail c = subst (λ (m : Voyage). IsNode m c.loop.node) (sym c.loop.invariant.same) c.loop.invariant.trail

pub returns-then-not-branch-clause-trail : goal.returns-then-not-branch-clause-trail
returns-then-not-branch-clause-trail c = subst (λ (m : Voyage). IsNode m c.go_down.new.node) c.loop.invariant.same c.in_ok-go_down.ensures.trail

pub loop-preserved : goal.loop-preserved
loop-preserved c = record {
  same = c.in_ok-go_down.ensures.same ∙ c.loop.invariant.same;
  trail = subst (λ (m : Voyage). IsNode m c.go_down.new.node) c.loop.invariant.same c.in_ok-go_down.ensures.trail;
}
