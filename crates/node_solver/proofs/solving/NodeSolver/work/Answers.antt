use Rattle.std.proofs.Common.{sym, subst}
use Rattle.zero_one_rows.specs.Variables.{Voyage}
use Rattle.node_solver.specs.Work.{IsNode, begins_at, most_at, Works}
use Rattle.node_solver.proofs.solving.NodeSolver.work.Goals as goal

pub work-requires-clause-trail : goal.work-requires-clause-trail
work-requires-clause-trail g c = subst (λ (m : Voyage). IsNode m c.args.node.now) (sym c.self.view_is) c.requires.trail

pub returns-clause-worked : goal.returns-clause-worked
returns-clause-worked g c = subst (λ (m : Voyage). Works m (begins_at m c.args.node.now) (most_at c.args.node.now) c.args.cut c.work.result) c.self.view_is c.work.ensures.worked
