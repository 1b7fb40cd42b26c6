use Rattle.std.proofs.Common.{rules, ℕ, List, ◌↔◌, SFits, w64, sym, subst, ap, ◌∙◌, ℤ, ◌≤◌, ◌^◌, ◌-ℤ◌, ◌≢◌}
use Rattle.std.specs.Prelude.{Contains, AllPairs}
use Rattle.std.specs.Int.{w128}
use Rattle.std.specs.Int.RustNames.{unsigned_abs}
use Rattle.std.proofs.lemmas.Int.{to_z-of_z}
use Rattle.proof_trees.specs.Boxes.{Box, most}
use Rattle.zero_one_rows.specs.Rows.{whole}
use Rattle.zero_one_model.specs.Indexed.{Touches}
use Rattle.row_matrix.proofs.Widths.{least_most}
use Rattle.row_matrix.proofs.margins.slack_of.Goals as goal

pub returns-then-is_low : goal.returns-then-is_low
returns-then-is_low c =
    let f : SFits w64 c.least_slack.result = search rules in
    simp to_z-of_z (c.least_slack.ensures ∙ sym (ap (λ (y : ℤ). y -ℤ (whole c.args.model.now).rhs c.args.row.now) (least_most c.args.model.now c.args.row.now (c.requires.low (search rules)))))

pub slack_among-requires-clause-each : goal.slack_among-requires-clause-each
slack_among-requires-clause-each c = subst (λ (xs : List ℕ). (x : ℕ) → Contains xs x ↔ Touches c.args.model.now c.args.row.now x) (sym c.as_slice.ensures) c.in_ok-vars.ensures.each

pub slack_among-requires-clause-once : goal.slack_among-requires-clause-once
slack_among-requires-clause-once c = subst (λ (xs : List ℕ). AllPairs (λ x y. x ≢ y) xs) (sym c.as_slice.ensures) c.in_ok-vars.ensures.once

pub narrow-requires : goal.narrow-requires
narrow-requires c =
    let f : SFits w128 c.slack_among.result = search rules in
    simp to_z-of_z (subst (λ (z : ℤ). unsigned_abs z ≤ 2 ^ 38) (sym c.slack_among.ensures) (c.requires.small c.args.free.now))

pub returns : goal.returns
returns c =
    let f : SFits w128 c.slack_among.result = search rules in
    let h : SFits w64 c.narrow.result = search rules in
    simp to_z-of_z ((simp to_z-of_z at c.narrow.ensures) ∙ c.slack_among.ensures ∙ ap (λ (b : Box). most (whole c.args.model.now) b c.args.row.now -ℤ (whole c.args.model.now).rhs c.args.row.now) c.requires.free)
