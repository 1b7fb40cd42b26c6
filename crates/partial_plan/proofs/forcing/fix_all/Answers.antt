use Rattle.std.proofs.Common.{rules, arith, ◌≡◌, ◌<◌, length, nat_lt, SFits, ℕ, ◌∙◌, ap, subst}
use Rattle.std.specs.Int.{w128}
use Rattle.std.proofs.lemmas.Int.{to_z-of_z}
use Rattle.proof_trees.specs.Boxes.{Box}
use Rattle.zero_one_rows.specs.Variables.{variables}
use Rattle.zero_one_rows.specs.Rows.{whole}
use Rattle.partial_plan.specs.Forced.{stepped}
use Rattle.partial_plan.proofs.Landing.{tight_by}
use Rattle.partial_plan.proofs.Walking.{Partly, step_length, in_order_none, in_order_more, in_order_all}
use Rattle.partial_plan.proofs.forcing.fix_all.Goals as goal

pub loop-v-init : goal.loop-v-init
loop-v-init c =
    let s : SFits w128 c.args.slack = search rules in
    record {
      len = c.requires.whole;
      partly = simp to_z-of_z (in_order_none c.args.slack (λ (v : ℕ). (whole c.args.model.now).coef c.args.r.now v) (length (variables c.args.model.now)) c.args.b.now);
    }

pub loop-v-preserved : goal.loop-v-preserved
loop-v-preserved c =
    let s : SFits w128 c.args.slack = search rules in
    let lt : c.loop-v.v < length (variables c.args.model.now) = omega (arith, c.vars-v-end.ensures.number, c.loop-v-test.true) in
    let is : c.fix_one.new.b ≡ stepped c.args.slack c.loop-v.b c.loop-v.v ((whole c.args.model.now).coef c.args.r.now c.loop-v.v) = simp to_z-of_z at c.fix_one.ensures in
    record {
      len = ap (λ (b : Box). length b) is ∙ step_length c.args.slack c.loop-v.b c.loop-v.v ((whole c.args.model.now).coef c.args.r.now c.loop-v.v) ∙ c.loop-v.invariant.len;
      partly = simp to_z-of_z (in_order_more c.args.slack (λ (v : ℕ). (whole c.args.model.now).coef c.args.r.now v) (length (variables c.args.model.now)) c.args.b.now c.loop-v.v c.loop-v.b c.fix_one.new.b c.loop-v.invariant.len lt is (simp to_z-of_z at c.loop-v.invariant.partly));
    }

pub returns : goal.returns
returns c =
    let s : SFits w128 c.args.slack = search rules in
    let all : c.loop-v.v ≡ length (variables c.args.model.now) = omega (arith, c.vars-v-end.ensures.number) in
    let partly : Partly (λ v. nat_lt v (length (variables c.args.model.now))) c.args.slack (λ v. (whole c.args.model.now).coef c.args.r.now v) (length (variables c.args.model.now)) c.args.b.now c.loop-v.b =
    subst (λ (n : ℕ). Partly (λ v. nat_lt v n) c.args.slack (λ v. (whole c.args.model.now).coef c.args.r.now v) (length (variables c.args.model.now)) c.args.b.now c.loop-v.b) all (simp to_z-of_z at c.loop-v.invariant.partly) in
    tight_by (whole c.args.model.now) c.args.b.now c.loop-v.b c.args.r.now c.args.slack c.requires.whole c.loop-v.invariant.len c.requires.slack c.requires.met
    (in_order_all c.args.slack (λ (v : ℕ). (whole c.args.model.now).coef c.args.r.now v) (length (variables c.args.model.now)) c.args.b.now c.loop-v.b partly)
