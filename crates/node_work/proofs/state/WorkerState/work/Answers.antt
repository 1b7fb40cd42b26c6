use Rattle.std.proofs.Common.{sym, subst, ◌∙◌}
use Rattle.zero_one_rows.specs.Variables.{Voyage}
use Rattle.node_solver.specs.Work.{IsNode, begins_at, most_at, Works}
use Rattle.node_work.proofs.state.WorkerState.work.Goals as goal

pub work_at-requires-clause-trail : goal.work_at-requires-clause-trail
work_at-requires-clause-trail c = subst (λ (m : Voyage). IsNode m c.args.node.now) (sym (c.model.ensures ∙ c.self.view_is)) c.requires.trail

pub returns-clause-worked : goal.returns-clause-worked
returns-clause-worked c = subst (λ (m : Voyage). Works m (begins_at m c.args.node.now) (most_at c.args.node.now) c.args.cut c.work_at.result) (c.model.ensures ∙ c.self.view_is) c.work_at.ensures.worked
