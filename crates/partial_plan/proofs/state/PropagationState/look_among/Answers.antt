use Rattle.std.proofs.Common.{rules, arith, ◌≡◌, ◌+◌, ◌++◌, [], ◌∷◌, List, length, length-append, true, SFits, w64, ℤ, pos, ◌≤ℤ◌, refl, sym, subst, ap, ◌∙◌}
use Rattle.std.proofs.lemmas.Int.{to_z-of_z}
use Rattle.zero_one_rows.specs.declared.program.Row.{Row}
use Rattle.zero_one_rows.specs.Rows.{base}
use Rattle.partial_plan.specs.Tightening.{Tightens}
use Rattle.partial_plan.proofs.Falling.{tightens_falls}
use Rattle.partial_plan.proofs.Steps.{tightens_one}
use Rattle.row_matrix.specs.Terms.{row_at, slack_in}
use Rattle.row_matrix.specs.Waiting.{number_at}
use Rattle.partial_plan.specs.PropagationState.{CalmAt}
use Rattle.partial_plan.specs.Looking.{AnyForced, NoneForced}
use Rattle.partial_plan.proofs.Looks.{any_other, holds_cleared, none_calm, rests_cleared, rests_forced, terms_inside, work_cleared, work_forced}
use Rattle.partial_plan.proofs.state.PropagationState.look_among.Goals as goal

pub forces_any-requires : goal.forces_any-requires
forces_any-requires c = terms_inside c.args.matrix.now (row_at c.args.matrix.now c.args.k) c.args.terms.now _ c.requires.terms c.requires.state.holds.whole

pub returns-then-not-forces_any-clause-rests : goal.returns-then-not-forces_any-clause-rests
returns-then-not-forces_any-clause-rests c =
    let s : SFits w64 c.args.slack = search rules in
    let is : c.args.slack ≡ slack_in c.args.matrix.now c.args.self.now.b c.args.k = c.requires.slack in
    let number : c.args.slack ≡ number_at c.args.self.now.slacks.slack.items c.args.k = is ∙ sym (c.requires.state.holds.slack c.args.k c.requires.row) in
    let met : pos 0 ≤ℤ c.args.slack = c.requires.met in
    let none : NoneForced c.args.self.now.b c.args.slack c.args.terms.now = simp to_z-of_z at (c.forces_any.ensures.none (search rules)) in
    rests_cleared c.args.matrix.now c.args.self.now.b c.args.self.now.slacks c.clear.new.self c.args.k c.requires.rests c.clear.ensures.slack c.clear.ensures.waits
    (subst (λ (z : ℤ). CalmAt c.args.matrix.now c.args.self.now.b z c.args.k) number (none_calm c.args.matrix.now c.args.self.now.b c.args.slack c.args.k c.args.terms.now c.requires.terms met none))

pub returns-then-not-forces_any-clause-less : goal.returns-then-not-forces_any-clause-less
returns-then-not-forces_any-clause-less c = work_cleared c.args.matrix.now c.args.self.now (record { b = c.args.self.now.b; undo = c.args.self.now.undo; quiet = c.args.self.now.quiet; slacks = c.clear.new.self }) c.args.k c.requires.waits refl c.clear.ensures.waits

pub returns-in-Ok-clause-rests : goal.returns-in-Ok-clause-rests
returns-in-Ok-clause-rests c =
    let s : SFits w64 c.args.slack = search rules in
    let is : c.args.slack ≡ slack_in c.args.matrix.now c.args.self.now.b c.args.k = c.requires.slack in
    let number : c.args.slack ≡ number_at c.args.self.now.slacks.slack.items c.args.k = is ∙ sym (c.requires.state.holds.slack c.args.k c.requires.row) in
    let met : pos 0 ≤ℤ c.args.slack = c.requires.met in
    rests_forced c.args.matrix.now c.args.self.now.b c.fix_all.new.self.b c.args.self.now.slacks c.clear-in-Ok.new.self c.fix_all.new.self.slacks c.args.k c.requires.state.holds c.requires.row (subst (λ (z : ℤ). pos 0 ≤ℤ z) number met) c.requires.rests c.clear-in-Ok.ensures.slack c.clear-in-Ok.ensures.waits c.fix_all.ensures.known c.fix_all.ensures.marks

pub returns-in-Ok-clause-steps : goal.returns-in-Ok-clause-steps
returns-in-Ok-clause-steps c =
    let s : SFits w64 c.args.slack = search rules in
    let is : c.args.slack ≡ slack_in c.args.matrix.now c.args.self.now.b c.args.k = c.requires.slack in
    let number : c.args.slack ≡ number_at c.args.self.now.slacks.slack.items c.args.k = is ∙ sym (c.requires.state.holds.slack c.args.k c.requires.row) in
    let met : pos 0 ≤ℤ c.args.slack = c.requires.met in
    let any : AnyForced c.args.self.now.b c.args.slack c.args.terms.now = simp to_z-of_z at (c.forces_any.ensures.some (search rules)) in
    let other = any_other c.args.matrix.now c.args.self.now.b c.args.slack c.args.k c.requires.state.holds.whole is met c.args.terms.now c.requires.terms any in
    tightens_one c.args.matrix.now c.args.self.now.b c.fix_all.new.self.b c.args.steps.now c.push.new.self (row_at c.args.matrix.now c.args.k) (subst (λ (r : Row). (base c.args.matrix.now).has r ≡ true) c.row.ensures.is c.row.ensures.base) (c.in-Ok.ensures ∙ ap (λ (r : Row). c.args.steps.now ++ r ∷ []) c.row.ensures.is) c.fix_all.ensures.known other

pub returns-in-Ok-clause-less : goal.returns-in-Ok-clause-less
returns-in-Ok-clause-less c =
    let s : SFits w64 c.args.slack = search rules in
    let is : c.args.slack ≡ slack_in c.args.matrix.now c.args.self.now.b c.args.k = c.requires.slack in
    let number : c.args.slack ≡ number_at c.args.self.now.slacks.slack.items c.args.k = is ∙ sym (c.requires.state.holds.slack c.args.k c.requires.row) in
    let met : pos 0 ≤ℤ c.args.slack = c.requires.met in
    let any : AnyForced c.args.self.now.b c.args.slack c.args.terms.now = simp to_z-of_z at (c.forces_any.ensures.some (search rules)) in
    let other = any_other c.args.matrix.now c.args.self.now.b c.args.slack c.args.k c.requires.state.holds.whole is met c.args.terms.now c.requires.terms any in
    let tight : Tightens c.args.matrix.now c.args.self.now.b c.fix_all.new.self.b c.args.steps.now c.push.new.self =
    tightens_one c.args.matrix.now c.args.self.now.b c.fix_all.new.self.b c.args.steps.now c.push.new.self (row_at c.args.matrix.now c.args.k) (subst (λ (r : Row). (base c.args.matrix.now).has r ≡ true) c.row.ensures.is c.row.ensures.base) (c.in-Ok.ensures ∙ ap (λ (r : Row). c.args.steps.now ++ r ∷ []) c.row.ensures.is) c.fix_all.ensures.known other in
    let n : length c.push.new.self ≡ length c.args.steps.now + 1 = ap (λ (rs : List Row). length rs) c.in-Ok.ensures ∙ length-append c.args.steps.now (c.row.result ∷ []) in
    work_forced c.args.matrix.now c.args.self.now c.fix_all.new.self (tightens_falls c.args.matrix.now c.args.self.now.b c.fix_all.new.self.b c.args.steps.now c.push.new.self c.requires.state.holds.whole tight (λ e. omega arith)) c.fix_all.ensures.state.holds.short.marks

pub fix_all-requires-clause-state : goal.fix_all-requires-clause-state
fix_all-requires-clause-state c =
    let t = c.requires.state.trails in
    record {
      holds = holds_cleared c.args.matrix.now c.args.self.now.b c.args.self.now.slacks c.clear-in-Ok.new.self c.args.k c.requires.state.holds c.clear-in-Ok.ensures.slack c.clear-in-Ok.ensures.waits c.clear-in-Ok.ensures.count;
      trails = record { inside = t.inside; room = t.room; capacity = t.capacity; marks = t.marks; quiet = t.quiet };
    }
