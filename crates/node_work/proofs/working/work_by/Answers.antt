use Rattle.std.proofs.Common.{sym, subst}
use Rattle.zero_one_rows.specs.Variables.{Voyage}
use Rattle.node_solver.specs.Work.{IsNode, begins_at, most_at, Works}
use Rattle.node_work.proofs.working.work_by.Goals as goal

pub work-requires-clause-trail : goal.work-requires-clause-trail
work-requires-clause-trail c = subst (λ (m : Voyage). IsNode m c.args.node.now) (sym c.in_ok-state.ensures) c.requires.trail

pub returns : goal.returns
returns c = subst (λ (m : Voyage). Works m (begins_at m c.args.node.now) (most_at c.args.node.now) c.args.cut c.work.result) c.in_ok-state.ensures c.work.ensures.worked
