use Rattle.std.proofs.Common.{◌≤◌, ◌+◌, sym, subst, ◌∙◌}
use Rattle.std.specs.Prelude.{IfOk}
use Rattle.stow_data.specs.Shipment.{IsCargo, most_cost}
use Rattle.zero_one_rows.specs.Variables.{Voyage}
use Rattle.node_solver.specs.Work.{IsNode, begins_at, most_at, Works}
use Rattle.node_work.proofs.working.work_afresh.Goals as goal

pub work_by-requires-clause-cargo : goal.work_by-requires-clause-cargo
work_by-requires-clause-cargo c = subst (λ (m : Voyage). IsCargo m.cargo) (sym (c.build-tables.ensures ∙ c.in_ok-matrix.ensures)) c.requires.cargo

pub work_by-requires-clause-trail : goal.work_by-requires-clause-trail
work_by-requires-clause-trail c = subst (λ (m : Voyage). IsNode m c.args.node.now) (sym (c.build-tables.ensures ∙ c.in_ok-matrix.ensures)) c.requires.trail

pub work_by-requires-clause-cut : goal.work_by-requires-clause-cut
work_by-requires-clause-cut c = subst (λ (m : Voyage). c.args.cut ≤ most_cost m.cargo + 1) (sym (c.build-tables.ensures ∙ c.in_ok-matrix.ensures)) c.requires.cut

pub returns : goal.returns
returns c = subst (λ (m : Voyage). IfOk c.work_by.result (Works m (begins_at m c.args.node.now) (most_at c.args.node.now) c.args.cut)) (c.build-tables.ensures ∙ c.in_ok-matrix.ensures) c.work_by.ensures
