use Rattle.std.proofs.Common.{◌≡◌, ◌<◌, ◌+◌, ◌∷◌, ◌++◌, ℕ, suc, List, [], ap, sym, subst, arith, length, length-append, refl}
use Rattle.std.specs.Prelude.{All}
use Rattle.stow_data.specs.Plans.{Plan}
use Rattle.stow_data.specs.Shipment.{Cargo}
use Rattle.zero_one_rows.specs.Variables.{variables}
use Rattle.zero_one_rows.specs.Rows.{IsSolution}
use Rattle.model_bridge.proofs.Calls.{IsPair}
use Rattle.model_bridge.specs.Pairs.{ones, listed_ones, IsNextHeld, plan_of_pairs}
use Rattle.model_bridge.proofs.Bags.{all_from, each_listed}
use Rattle.model_bridge.proofs.Steps.{solves}
use Rattle.model_bridge.proofs.Reached.{IsReached, reached_first, next_held, reached_next, sailed}
use Rattle.model_bridge.proofs.plans.push_plans.Goals as goal

pub held_at_arrival-requires-clause-vars : goal.held_at_arrival-requires-clause-vars
held_at_arrival-requires-clause-vars c =
    let n = length (variables c.args.model.now) in
    subst (λ (vs : List ℕ). All (λ v. v < n) vs) (sym c.in_ok-list.ensures) (all_from _ (λ v. v < n) (listed_ones c.args.model.now c.args.full.now) (λ v h. h.0) (each_listed (ones c.args.full.now) n))

pub held_after-requires-clause-list : goal.held_after-requires-clause-list
held_after-requires-clause-list c =
    let n = length (variables c.args.model.now) in
    subst (λ (vs : List ℕ). All (λ v. v < n) vs) (sym c.in_ok-list.ensures) (all_from _ (λ v. v < n) (listed_ones c.args.model.now c.args.full.now) (λ v h. h.0) (each_listed (ones c.args.full.now) n))

pub loop-call-init : goal.loop-call-init
loop-call-init c =
    let solution : IsSolution c.args.model.now (ones c.args.full.now) = solves c.args.model.now c.args.full.now c.requires.full c.requires.rows in
    record {
      reached = subst (λ (ps : List Plan). IsReached c.args.model.now c.args.full.now ps c.in_ok-held.held) (sym c.requires.empty)
          (reached_first c.args.model.now c.requires.problem c.args.full.now solution c.in_ok-list.list c.in_ok-held.held c.in_ok-list.ensures c.in_ok-held.ensures);
      number = ap (λ (ps : List Plan). length ps + 1) c.requires.empty;
    }

pub held_after-requires-clause-vars : goal.held_after-requires-clause-vars
held_after-requires-clause-vars c = all_from (IsPair c.args.model.now (ones c.args.full.now) (length c.loop-call.plans)) _ c.loop-call.held (λ e p. p.var_known) c.loop-call.invariant.reached.holds.each

pub held_after-requires-clause-boxes : goal.held_after-requires-clause-boxes
held_after-requires-clause-boxes c =
    let few = ap (λ (g : Cargo). length g.containers) c.requires.cargo in
    all_from (IsPair c.args.model.now (ones c.args.full.now) (length c.loop-call.plans)) (λ (e : ℕ × ℕ). e.1 < length c.args.cargo.now.containers) c.loop-call.held (λ e p. omega (arith, p.box_known, few)) c.loop-call.invariant.reached.holds.each

pub push_plan-requires-clause-vars : goal.push_plan-requires-clause-vars
push_plan-requires-clause-vars c =
    let m = c.args.model.now in
    let b = c.args.full.now in
    let solution : IsSolution m (ones b) = solves m b c.requires.full c.requires.rows in
    let plans = c.loop-call.plans in
    let next = c.in_ok-held-2.held in
    let number = c.loop-call.invariant.number in
    let n = c.calls-call-end.ensures.number in
    let same = ap (λ (g : Cargo). length g.rotation) c.requires.cargo in
    let more = c.loop-call-test.true in
    let made : IsNextHeld m c.loop-call.call c.in_ok-list.list c.loop-call.held next = c.in_ok-held-2.ensures in
    let h : IsNextHeld m (length plans + 1) (listed_ones m b) c.loop-call.held next =
    subst (λ (vs : List ℕ). IsNextHeld m (length plans + 1) vs c.loop-call.held next) c.in_ok-list.ensures
    (subst (λ (j : ℕ). IsNextHeld m j c.in_ok-list.list c.loop-call.held next) (sym number) made) in
    let is = next_held m c.requires.problem b solution plans c.loop-call.held next c.loop-call.invariant.reached (omega (arith, number, n, same, more)) h in
    all_from (IsPair m (ones b) (suc (length plans))) (λ (e : ℕ × ℕ). e.0 < length (variables m)) next (λ e p. p.var_known) is.each

pub loop-call-preserved : goal.loop-call-preserved
loop-call-preserved c =
    let m = c.args.model.now in
    let b = c.args.full.now in
    let solution : IsSolution m (ones b) = solves m b c.requires.full c.requires.rows in
    let plans = c.loop-call.plans in
    let next = c.in_ok-held-2.held in
    let plan = plan_of_pairs m next in
    let number = c.loop-call.invariant.number in
    let n = c.calls-call-end.ensures.number in
    let same = ap (λ (g : Cargo). length g.rotation) c.requires.cargo in
    let more = c.loop-call-test.true in
    let made : IsNextHeld m c.loop-call.call c.in_ok-list.list c.loop-call.held next = c.in_ok-held-2.ensures in
    let h : IsNextHeld m (length plans + 1) (listed_ones m b) c.loop-call.held next =
    subst (λ (vs : List ℕ). IsNextHeld m (length plans + 1) vs c.loop-call.held next) c.in_ok-list.ensures
    (subst (λ (j : ℕ). IsNextHeld m j c.in_ok-list.list c.loop-call.held next) (sym number) made) in
    let pushed : c.push_plan.new.plans ≡ plans ++ plan ∷ [] = c.in_ok-push_plan.ensures in
    record {
      reached = subst (λ (ps : List Plan). IsReached m b ps next) (sym pushed) (reached_next m c.requires.problem b solution plans c.loop-call.held next plan c.loop-call.invariant.reached (omega (arith, number, n, same, more)) h refl);
      number = let a = ap length pushed in let d = length-append plans (plan ∷ []) in omega (arith, a, d, number);
    }

pub returns : goal.returns
returns c =
    let solution : IsSolution c.args.model.now (ones c.args.full.now) = solves c.args.model.now c.args.full.now c.requires.full c.requires.rows in
    let n = c.calls-call-end.ensures.number in
    let same = ap (λ (g : Cargo). length g.rotation) c.requires.cargo in
    let i = c.loop-call.invariant.number in
    let far = c.loop-call-test.false in
    let near = c.loop-call.auto in
    let two = c.requires.problem.cargo.calls_from in
    sailed c.args.model.now c.requires.problem c.args.full.now solution c.loop-call.plans c.loop-call.held c.loop-call.invariant.reached (omega (arith, n, same, i, far, near.call-end, two))
