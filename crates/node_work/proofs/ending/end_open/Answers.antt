use Rattle.std.proofs.Common.{inl, inr, false, sym, subst}
use Rattle.zero_one_rows.specs.declared.program.Var.{Var}
use Rattle.zero_one_rows.specs.declared.program.Row.{Row}
use Rattle.proof_trees.specs.Boxes.{Box}
use Rattle.proof_trees.specs.Multipliers.{Multipliers}
use Rattle.certificate.specs.declared.tree.End.TheVariants.{Branch}
use Rattle.dual_bound.specs.declared.raising.Raised.{Raised}
use Rattle.dual_bound.specs.Raising.{Raises}
use Rattle.dual_bound.specs.Rising.{Ends}
use Rattle.certificate.specs.declared.tree.Record.{Record}
use Rattle.node_solver.specs.Work.{EndsBranched, EndsClosed}
use Rattle.node_work.proofs.Ends.{reached_ends, stuck_ends}
use Rattle.node_work.proofs.ending.end_open.Goals as goal

pub returns-in_ok-leaf-in-Reached-clause-worked : goal.returns-in_ok-leaf-in-Reached-clause-worked
returns-in_ok-leaf-in-Reached-clause-worked c = λ q inherited tight.
    let m = c.args.model.now in
    let ns = c.raise.new.self.gauge.multipliers in
    let ends = subst (λ (b : Box). Ends m b ns c.args.limits.cut c.raise.result) c.set_box.ensures.known c.raise.ensures.ends in
    let raised = subst (λ (b : Box). Raises m b c.args.most c.set_box.new.self.gauge.multipliers ns c.new-raises.result c.raise.new.raises) c.set_box.ensures.known c.raise.ensures.raised in
    let raised' = subst (λ (ms : Multipliers Row). Raises m c.args.b.now c.args.most ms ns c.new-raises.result c.raise.new.raises) c.set_box.ensures.prices raised in
    subst (λ (r : Record). EndsClosed m q c.args.most c.args.limits.cut r) (sym c.in_ok-leaf-in-Reached.ensures) (reached_ends m q c.args.most c.args.limits.cut c.args.steps c.args.b.now tight c.args.dual_state.now.gauge.multipliers ns c.new-raises.result c.raise.new.raises inherited c.new-raises.ensures raised'
    (subst (λ (e : Raised). Ends m c.args.b.now ns c.args.limits.cut e) c.in-Reached.is ends))

pub returns-in_ok-branch-in-Stuck-clause-worked : goal.returns-in_ok-branch-in-Stuck-clause-worked
returns-in_ok-branch-in-Stuck-clause-worked c = λ q inherited tight.
    let m = c.args.model.now in
    let ns = c.raise.new.self.gauge.multipliers in
    let ends = subst (λ (b : Box). Ends m b ns c.args.limits.cut c.raise.result) c.set_box.ensures.known c.raise.ensures.ends in
    let raised = subst (λ (b : Box). Raises m b c.args.most c.set_box.new.self.gauge.multipliers ns c.new-raises.result c.raise.new.raises) c.set_box.ensures.known c.raise.ensures.raised in
    let raised' = subst (λ (ms : Multipliers Row). Raises m c.args.b.now c.args.most ms ns c.new-raises.result c.raise.new.raises) c.set_box.ensures.prices raised in
    subst (λ (r : Record). EndsBranched m q c.args.most c.args.limits.cut r) (sym c.in_ok-branch-in-Stuck.ensures) (subst (λ (v : Var). EndsBranched m q c.args.most c.args.limits.cut (record { from_zero = false; steps = c.args.steps; raises = c.raise.new.raises; end = Branch v })) (sym c.var.ensures)
    (stuck_ends m q c.args.most c.args.limits.cut c.args.steps c.args.b.now tight c.args.dual_state.now.gauge.multipliers ns c.new-raises.result c.raise.new.raises inherited c.new-raises.ensures raised'
    c.in_ok-x-in-Stuck.x c.in_ok-x-in-Stuck.ensures.inside c.in_ok-x-in-Stuck.ensures.free c.requires.quiet
    (elim c.in-Stuck.is [
      | inl e ↦ (subst (λ (r : Raised). Ends m c.args.b.now ns c.args.limits.cut r) e ends).0
      | inr e ↦ (subst (λ (r : Raised). Ends m c.args.b.now ns c.args.limits.cut r) e ends).0
    ])
    (elim c.in-Stuck.is [
      | inl e ↦ inr (subst (λ (r : Raised). Ends m c.args.b.now ns c.args.limits.cut r) e ends).1
      | inr e ↦ inl (c.raise.ensures.spent e)
    ])))
