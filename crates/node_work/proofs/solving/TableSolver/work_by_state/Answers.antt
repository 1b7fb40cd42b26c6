use Rattle.std.proofs.Common.{◌≡◌, IfSome, Option, sym, subst, ◌∙◌}
use Rattle.zero_one_rows.specs.Variables.{Voyage}
use Rattle.node_solver.specs.Work.{IsNode, begins_at, most_at, Works}
use Rattle.node_work.proofs.solving.TableSolver.work_by_state.Goals as goal

pub work-requires-clause-trail : goal.work-requires-clause-trail
work-requires-clause-trail c =
    let at : c.in-Some.state ≡ c.self.inside.tables.now = subst (λ (o : Option Voyage). IfSome o (λ state. state ≡ c.self.inside.tables.now)) c.in-Some.is c.self.invariant in
    subst (λ (m : Voyage). IsNode m c.args.node.now) (sym (at ∙ c.self.view_is)) c.requires.trail

pub returns-clause-worked : goal.returns-clause-worked
returns-clause-worked c =
    let at : c.in-Some.state ≡ c.self.inside.tables.now = subst (λ (o : Option Voyage). IfSome o (λ state. state ≡ c.self.inside.tables.now)) c.in-Some.is c.self.invariant in
    subst (λ (m : Voyage). Works m (begins_at m c.args.node.now) (most_at c.args.node.now) c.args.cut c.work.result) (at ∙ c.self.view_is) c.work.ensures.worked
