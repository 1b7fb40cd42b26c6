use Rattle.std.proofs.Common.{◌≡◌, length, set, None, Some, refl, sym, ap, ◌∙◌}
use Rattle.std.proofs.lemmas.Option.{get_or_from_slice_get}
use Rattle.std.proofs.lemmas.List.{length-set}
use Rattle.proof_trees.specs.Boxes.{Box, at}
use Rattle.row_matrix.specs.Terms.{slack_in}
use Rattle.row_matrix.proofs.Moving.{holds_of, room, slack_freed, slack_small}
use Rattle.row_matrix.proofs.Loosely.{set_alike}
use Rattle.row_matrix.proofs.following.lift_by.Goals as goal

pub lift_rows-requires-clause-room : goal.lift_rows-requires-clause-room
lift_rows-requires-clause-room c = λ r k.
    room c.args.matrix.now c.args.b.now c.args.slacks.now c.has_small_slacks.ensures c.requires.holds r k

pub lift_rows-requires-clause-left : goal.lift_rows-requires-clause-left
lift_rows-requires-clause-left c = λ r k.
    let is : at c.args.b.now c.args.x ≡ Some c.in-Some.value = get_or_from_slice_get c.args.b.now c.args.x (Some c.in-Some.value) None c.in-Some.ensures in
    slack_small c.args.matrix.now (set c.args.b.now c.args.x None) r _ (c.has_small_slacks.ensures r k)
    (slack_freed c.args.matrix.now c.args.b.now c.args.x c.in-Some.value c.args.slacks.now c.requires.holds c.requires.var is r k _ refl)

pub returns-in-Some-clause-holds : goal.returns-in-Some-clause-holds
returns-in-Some-clause-holds c =
    let is : at c.args.b.now c.args.x ≡ Some c.in-Some.value = get_or_from_slice_get c.args.b.now c.args.x (Some c.in-Some.value) None c.in-Some.ensures in
    holds_of c.args.matrix.now c.args.b.now c.release.new.self c.args.slacks.now c.lift_rows.new.slacks c.requires.holds
    (ap (λ (b : Box). length b) c.release.ensures ∙ length-set c.args.b.now c.args.x None)
    c.lift_rows.ensures.short
    (λ k lt. c.lift_rows.ensures.slack k lt
    ∙ slack_freed c.args.matrix.now c.args.b.now c.args.x c.in-Some.value c.args.slacks.now c.requires.holds c.requires.var is k lt _ refl
    ∙ ap (λ (b : Box). slack_in c.args.matrix.now b k) (sym c.release.ensures))

pub returns-in-None-clause-known : goal.returns-in-None-clause-known
returns-in-None-clause-known c = sym (set_alike c.args.b.now c.args.x None (get_or_from_slice_get c.args.b.now c.args.x None None c.in-None.ensures) c.requires.var)
