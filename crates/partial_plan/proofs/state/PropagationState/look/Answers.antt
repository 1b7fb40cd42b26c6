use Rattle.std.proofs.Common.{rules, arith, ◌≡◌, ◌<◌, List, length, SFits, w64, ℤ, pos, ◌≤ℤ◌, refl, sym, subst, ◌∙◌}
use Rattle.std.proofs.lemmas.Int.{to_z-of_z}
use borrow.Author.Differences.{ints}
use Rattle.row_matrix.proofs.Rows.{read}
use Rattle.row_matrix.specs.declared.entries.Term.{Term}
use Rattle.row_matrix.specs.Terms.{row_at, AreTerms}
use Rattle.row_matrix.specs.Waiting.{number_at}
use Rattle.row_matrix.specs.Following.{IsWide}
use Rattle.partial_plan.specs.PropagationState.{CalmAt}
use Rattle.partial_plan.proofs.Looks.{rests_cleared, work_cleared}
use Rattle.partial_plan.proofs.CalmRows.{wide_calm}
use Rattle.partial_plan.proofs.state.PropagationState.look.Goals as goal

pub look_among-requires-clause-slack : goal.look_among-requires-clause-slack
look_among-requires-clause-slack c =
    let s : SFits w64 c.index-slack.result.now = search rules in
    let inside : c.args.k < length c.args.self.now.slacks.slack.items = omega (arith, c.requires.state.holds.short.slacks, c.requires.row) in
    let number : c.index-slack.result.now ≡ number_at c.args.self.now.slacks.slack.items c.args.k = read c.args.self.now.slacks.slack.items c.args.k c.index-slack.result.now (pos 0) inside c.index-slack.ensures in
    simp to_z-of_z (number ∙ c.requires.state.holds.slack c.args.k c.requires.row)

pub look_among-requires-clause-met : goal.look_among-requires-clause-met
look_among-requires-clause-met c =
    let s : SFits w64 c.index-slack.result.now = search rules in
    simp to_z-of_z (let met : pos 0 ≤ℤ c.index-slack.result.now = omega (arith, ints, simp to_z-of_z at c.if-slack-lt0.false) in met)

pub look_among-requires-in-Ok-clause-slack : goal.look_among-requires-in-Ok-clause-slack
look_among-requires-in-Ok-clause-slack c =
    let s : SFits w64 c.index-slack.result.now = search rules in
    let inside : c.args.k < length c.args.self.now.slacks.slack.items = omega (arith, c.requires.state.holds.short.slacks, c.requires.row) in
    let number : c.index-slack.result.now ≡ number_at c.args.self.now.slacks.slack.items c.args.k = read c.args.self.now.slacks.slack.items c.args.k c.index-slack.result.now (pos 0) inside c.index-slack.ensures in
    simp to_z-of_z (number ∙ c.requires.state.holds.slack c.args.k c.requires.row)

pub look_among-requires-in-Ok-clause-terms : goal.look_among-requires-in-Ok-clause-terms
look_among-requires-in-Ok-clause-terms c = subst (λ (ts : List Term). AreTerms c.args.matrix.now (row_at c.args.matrix.now c.args.k) ts) (sym c.as_slice.ensures.value) c.in-Ok.ensures

pub look_among-requires-in-Ok-clause-met : goal.look_among-requires-in-Ok-clause-met
look_among-requires-in-Ok-clause-met c =
    let s : SFits w64 c.index-slack.result.now = search rules in
    simp to_z-of_z (let met : pos 0 ≤ℤ c.index-slack.result.now = omega (arith, ints, simp to_z-of_z at c.if-slack-lt0.false) in met)

pub returns-then-is_wide-clause-rests : goal.returns-then-is_wide-clause-rests
returns-then-is_wide-clause-rests c =
    let s : SFits w64 c.index-slack.result.now = search rules in
    let inside : c.args.k < length c.args.self.now.slacks.slack.items = omega (arith, c.requires.state.holds.short.slacks, c.requires.row) in
    let number : c.index-slack.result.now ≡ number_at c.args.self.now.slacks.slack.items c.args.k = read c.args.self.now.slacks.slack.items c.args.k c.index-slack.result.now (pos 0) inside c.index-slack.ensures in
    let met : pos 0 ≤ℤ c.index-slack.result.now = omega (arith, ints, simp to_z-of_z at c.if-slack-lt0.false) in
    let wide : IsWide c.args.matrix.now c.index-slack.result.now c.args.k = simp to_z-of_z at (c.is_wide.ensures c.if-is_wide.true) in
    rests_cleared c.args.matrix.now c.args.self.now.b c.args.self.now.slacks c.clear.new.self c.args.k c.requires.rests c.clear.ensures.slack c.clear.ensures.waits
    (subst (λ (z : ℤ). CalmAt c.args.matrix.now c.args.self.now.b z c.args.k) number (wide_calm c.args.matrix.now c.args.self.now.b c.index-slack.result.now c.args.k met wide))

pub returns-then-is_wide-clause-less : goal.returns-then-is_wide-clause-less
returns-then-is_wide-clause-less c = work_cleared c.args.matrix.now c.args.self.now (record { b = c.args.self.now.b; undo = c.args.self.now.undo; quiet = c.args.self.now.quiet; slacks = c.clear.new.self }) c.args.k c.requires.waits refl c.clear.ensures.waits
