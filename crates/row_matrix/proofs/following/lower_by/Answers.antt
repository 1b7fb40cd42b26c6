use Rattle.std.proofs.Common.{◌≡◌, ◌<◌, length, None, Some, refl, sym, ap, ◌∙◌}
use Rattle.std.proofs.lemmas.Option.{get_or_from_slice_get, slice_get_within}
use Rattle.std.proofs.lemmas.List.{length-set}
use Rattle.proof_trees.specs.Boxes.{Box, at, fixed}
use Rattle.row_matrix.specs.Terms.{slack_in}
use Rattle.row_matrix.proofs.Moving.{holds_of, room, slack_fixed, slack_small}
use Rattle.row_matrix.proofs.following.lower_by.Goals as goal

pub lower_rows-requires-clause-room : goal.lower_rows-requires-clause-room
lower_rows-requires-clause-room c = λ r k.
    room c.args.matrix.now c.args.b.now c.args.slacks.now c.has_small_slacks.ensures c.requires.holds r k

pub lower_rows-requires-clause-left : goal.lower_rows-requires-clause-left
lower_rows-requires-clause-left c = λ r k.
    let free : at c.args.b.now c.args.x ≡ None = get_or_from_slice_get c.args.b.now c.args.x None None c.requires.free in
    let inside : c.args.x < length c.args.b.now = slice_get_within c.args.b.now c.args.x None c.requires.free in
    slack_small c.args.matrix.now (fixed c.args.b.now c.args.x c.args.value) r _ (c.has_small_slacks.ensures r k)
    (slack_fixed c.args.matrix.now c.args.b.now c.args.x c.args.value c.args.slacks.now c.requires.holds inside free r k _ refl)

pub returns-clause-holds : goal.returns-clause-holds
returns-clause-holds c =
    let free : at c.args.b.now c.args.x ≡ None = get_or_from_slice_get c.args.b.now c.args.x None None c.requires.free in
    let inside : c.args.x < length c.args.b.now = slice_get_within c.args.b.now c.args.x None c.requires.free in
    holds_of c.args.matrix.now c.args.b.now c.fix.new.self c.args.slacks.now c.lower_rows.new.slacks c.requires.holds
    (ap (λ (b : Box). length b) c.fix.ensures ∙ length-set c.args.b.now c.args.x (Some c.args.value))
    c.lower_rows.ensures.short
    (λ k lt. c.lower_rows.ensures.slack k lt
    ∙ slack_fixed c.args.matrix.now c.args.b.now c.args.x c.args.value c.args.slacks.now c.requires.holds inside free k lt _ refl
    ∙ ap (λ (b : Box). slack_in c.args.matrix.now b k) (sym c.fix.ensures))
