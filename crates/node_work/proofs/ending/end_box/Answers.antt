use Rattle.std.proofs.Common.{◌≡◌, true, length, sym, subst, refl, ◌∙◌, ap}
use Rattle.std.proofs.lemmas.Result.{IfOk-weaker}
use Rattle.zero_one_rows.specs.Variables.{Voyage, variables}
use Rattle.zero_one_rows.specs.Rows.{base, whole}
use Rattle.proof_trees.specs.Boxes.{Box, violated}
use Rattle.certificate.specs.declared.tree.Record.{Record}
use Rattle.zero_one_rows.specs.Tightening.{IsQuiet}
use Rattle.partial_plan.specs.Tightening.{Tightens}
use Rattle.node_work.specs.Starts.{IsTight, HasSteps, IsAfterSteps}
use Rattle.node_solver.specs.Work.{EndsClosed, Works}
use Rattle.node_work.proofs.Ends.{is_tight, violated_ends, after_steps}
use Rattle.node_work.proofs.Trails.{pending}
use Rattle.node_work.proofs.ending.end_box.Goals as goal

pub end_quiet-requires-clause-vars : goal.end_quiet-requires-clause-vars
end_quiet-requires-clause-vars c = ap (λ (b : Box). length b) c.now.ensures ∙ c.is_whole.ensures.whole ∙ ap (λ (m : Voyage). length (variables m)) (c.tighten.ensures.same ∙ c.requires.program)

pub end_quiet-requires-clause-quiet : goal.end_quiet-requires-clause-quiet
end_quiet-requires-clause-quiet c =
    subst (λ (b : Box). IsQuiet c.args.model.now b) (sym c.now.ensures) (subst (λ (m : Voyage). IsQuiet m c.tighten.new.self.known) c.requires.program (c.in-Quiet.ensures.quiet refl))

pub returns-in-Quiet-clause-tight : goal.returns-in-Quiet-clause-tight
returns-in-Quiet-clause-tight c =
    let tightens = subst (λ (m : Voyage). Tightens m c.args.kept.now.known c.tighten.new.self.known c.new-steps.result c.tighten.new.steps) c.requires.program c.tighten.ensures.steps in
    IfOk-weaker c.end_quiet.result (HasSteps c.tighten.new.steps) (IsAfterSteps c.args.model.now c.args.kept.now.known c.tighten.new.self.known)
    (after_steps c.args.model.now c.args.kept.now.known c.tighten.new.self.known c.new-steps.result c.tighten.new.steps tightens c.new-steps.ensures) c.end_quiet.ensures.steps

pub returns-in-Quiet-clause-worked : goal.returns-in-Quiet-clause-worked
returns-in-Quiet-clause-worked c =
    let q = pending c.args.kept.now.known c.args.dual_state.now.gauge.multipliers in
    let tightens = subst (λ (m : Voyage). Tightens m c.args.kept.now.known c.tighten.new.self.known c.new-steps.result c.tighten.new.steps) c.requires.program c.tighten.ensures.steps in
    let tight = is_tight c.args.model.now c.args.kept.now.known c.tighten.new.self.known c.new-steps.result c.tighten.new.steps tightens q refl c.new-steps.ensures in
    IfOk-weaker c.end_quiet.result _ (Works c.args.model.now q c.args.most c.args.limits.cut)
    (λ w h. h q refl (subst (λ (b : Box). IsTight c.args.model.now q b c.tighten.new.steps) (sym c.now.ensures) tight)) c.end_quiet.ensures.worked

pub returns-in_ok-leaf-in-Violated-clause-worked : goal.returns-in_ok-leaf-in-Violated-clause-worked
returns-in_ok-leaf-in-Violated-clause-worked c =
    let q = pending c.args.kept.now.known c.args.dual_state.now.gauge.multipliers in
    let tightens = subst (λ (m : Voyage). Tightens m c.args.kept.now.known c.tighten.new.self.known c.new-steps.result c.tighten.new.steps) c.requires.program c.tighten.ensures.steps in
    let tight = is_tight c.args.model.now c.args.kept.now.known c.tighten.new.self.known c.new-steps.result c.tighten.new.steps tightens q refl c.new-steps.ensures in
    let v = subst (λ (m : Voyage). ((base m).has c.in-Violated.row ≡ true) × (violated (whole m) c.tighten.new.self.known c.in-Violated.row ≡ true)) c.requires.program (c.in-Violated.ensures.violated c.in-Violated.row refl) in
    subst (λ (r : Record). EndsClosed c.args.model.now q c.args.most c.args.limits.cut r) (sym c.in_ok-leaf-in-Violated.ensures)
    (violated_ends c.args.model.now q c.args.most c.args.limits.cut c.tighten.new.steps c.tighten.new.self.known c.in-Violated.row c.requires.cargo c.requires.some c.requires.cut tight v.0 v.1)
