use Rattle.std.proofs.Common.{◌∙◌, ℕ, Bool, ap, arith, length, subst, sym}
use Rattle.zero_one_rows.specs.declared.program.Var.{Var}
use Rattle.zero_one_rows.specs.Variables.{variables, var}
use Rattle.model_bridge.specs.Stays.{begin_in, is_stay, IsWithin}
use Rattle.model_bridge.proofs.Boxed.{fixed_first, fixed_more, fixed_all}
use Rattle.model_bridge.proofs.assignments.box_of_stays.Goals as goal

pub is_stay-one-requires : goal.is_stay-one-requires
is_stay-one-requires c =
    let n = c.vars-v-end.ensures in
    let more = c.loop-v-test.true in
    record { within = subst (λ (x : Var). IsWithin c.args.cargo.now c.args.kinds.now c.args.plans.now c.args.table.now x) (sym c.var.ensures) (c.requires.within c.loop-v.v (omega (arith, n.number, more))) }

pub loop-v-init : goal.loop-v-init
loop-v-init c = fixed_first (length (variables c.args.model.now)) (λ k. is_stay c.args.cargo.now c.args.kinds.now c.args.plans.now (length c.args.table.now) (begin_in c.args.table.now) (var c.args.model.now k)) c.in_ok-full.full c.in_ok-full.ensures

pub fix-requires : goal.fix-requires
fix-requires c =
    let n = c.vars-v-end.ensures in
    let more = c.loop-v-test.true in
    c.loop-v.invariant.free c.loop-v.v (omega arith) (omega (arith, n.number, more))

pub loop-v-preserved : goal.loop-v-preserved
loop-v-preserved c =
    let n = c.vars-v-end.ensures in
    let more = c.loop-v-test.true in
    let test : ℕ → Bool = λ k. is_stay c.args.cargo.now c.args.kinds.now c.args.plans.now (length c.args.table.now) (begin_in c.args.table.now) (var c.args.model.now k) in
    fixed_more (length (variables c.args.model.now)) test c.loop-v.v c.loop-v.full c.fix.new.self c.is_stay-one.result (omega (arith, n.number, more)) c.loop-v.invariant c.fix.ensures
    (c.is_stay-one.ensures ∙ ap (λ (x : Var). is_stay c.args.cargo.now c.args.kinds.now c.args.plans.now (length c.args.table.now) (begin_in c.args.table.now) x) c.var.ensures)

pub returns : goal.returns
returns c =
    let n = c.vars-v-end.ensures in
    let done = c.loop-v-test.false in
    fixed_all c.args.model.now (λ k. is_stay c.args.cargo.now c.args.kinds.now c.args.plans.now (length c.args.table.now) (begin_in c.args.table.now) (var c.args.model.now k)) c.loop-v.v c.loop-v.full (omega (arith, n.number, done)) c.loop-v.invariant
