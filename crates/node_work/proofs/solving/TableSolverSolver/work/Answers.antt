use Rattle.std.proofs.Common.{sym, subst}
use Rattle.zero_one_rows.specs.Variables.{Voyage}
use Rattle.node_solver.specs.Work.{IsNode, begins_at, most_at, Works}
use Rattle.node_work.proofs.solving.TableSolverSolver.work.Goals as goal

pub work_by_state-requires-clause-trail : goal.work_by_state-requires-clause-trail
work_by_state-requires-clause-trail c = subst (λ (m : Voyage). IsNode m c.args.node.now) (sym c.make_state.ensures) c.requires.trail

pub returns-in-Ok-clause-worked : goal.returns-in-Ok-clause-worked
returns-in-Ok-clause-worked c = subst (λ (m : Voyage). Works m (begins_at m c.args.node.now) (most_at c.args.node.now) c.args.cut c.work_by_state.result) c.make_state.ensures c.work_by_state.ensures.worked
