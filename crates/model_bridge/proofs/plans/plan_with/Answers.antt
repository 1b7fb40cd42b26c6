use Rattle.std.proofs.Common.{◌≡◌, ◌∙◌, ◌-◌, ◌∷◌, ℕ, Some, ap, sym, arith, length, drop, suc, ◌<◌, ◌+◌}
use Rattle.std.specs.Prelude.{slice_set}
use Rattle.stow_data.specs.Plans.{Plan}
use Rattle.zero_one_rows.specs.declared.program.Var.{Var}
use Rattle.zero_one_rows.proofs.VariableList.{var_listed}
use Rattle.zero_one_rows.specs.Variables.{var, variables}
use Rattle.model_bridge.specs.Pairs.{plan_of_pairs}
use Rattle.model_bridge.proofs.Lists.{long_plan, drop_get, all_at}
use Rattle.model_bridge.proofs.plans.plan_with.Goals as goal

pub set-requires : goal.set-requires
set-requires c =
    let v = c.at-pair.result.now.0 in
    let known : v < length (variables c.args.model.now) = all_at (λ (e : ℕ × ℕ). e.0 < length (variables c.args.model.now)) c.args.held.now (c.len.result - 1 - c.loop-n.n) c.at-pair.result.now c.requires.vars c.at-pair.ensures in
    let named = (var_listed c.args.model.now v known).1 in
    let p = ap (λ (x : Var). x.place) c.var.ensures in
    let a = ap length c.loop-n.invariant in
    let b = long_plan c.args.model.now (drop (length c.args.held.now - c.loop-n.n) c.args.held.now) in
    omega (arith, named.place, p, a, b)

pub loop-n-preserved : goal.loop-n-preserved
loop-n-preserved c =
    let m = c.args.model.now in
    let es = c.args.held.now in
    let e = c.at-pair.result.now in
    let long = c.len.ensures in
    let more = c.loop-n-test.true in
    let end = c.len-n-end.ensures in
    let k : c.len.result - 1 - c.loop-n.n ≡ length es - (c.loop-n.n + 1) = omega (arith, long) in
    let next : suc (c.len.result - 1 - c.loop-n.n) ≡ length es - c.loop-n.n = omega (arith, long, more, end) in
    let here : drop (length es - (c.loop-n.n + 1)) es ≡ e ∷ drop (length es - c.loop-n.n) es =
    ap (λ (z : ℕ). drop z es) (sym k) ∙ drop_get es (c.len.result - 1 - c.loop-n.n) e c.at-pair.ensures ∙ ap (λ (z : ℕ). e ∷ drop z es) next in
    c.set.ensures
    ∙ ap (λ (x : Var). slice_set c.loop-n.plan x.place (Some e.1)) c.var.ensures
    ∙ ap (λ (p : Plan). slice_set p (var m e.0).place (Some e.1)) c.loop-n.invariant
    ∙ ap (plan_of_pairs m) (sym here)
