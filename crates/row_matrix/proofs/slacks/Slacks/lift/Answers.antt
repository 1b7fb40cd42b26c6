use Rattle.std.proofs.Common.{arith, ◌+◌, ◌<◌, ℕ, List, [], drop, length, get_or, sym, ap, subst, ◌∙◌, ◌≤◌, ◌^◌, ◌+ℤ◌}
use Rattle.std.specs.Int.RustNames.{unsigned_abs}
use Rattle.row_matrix.specs.Terms.{lost, lost_by}
use Rattle.row_matrix.specs.Waiting.{number_at}
use Rattle.row_matrix.proofs.Summing.{get_or_any}
use Rattle.row_matrix.proofs.Stepping.{no_share, lost_next, lost_over}
use Rattle.row_matrix.proofs.LeastLosses.{by_least, lost_least}
use Rattle.row_matrix.proofs.Moving.{rises_end, rises_more, rises_part, rises_room}
use Rattle.row_matrix.proofs.slacks.Slacks.lift.Goals as goal

pub lift_all-requires-clause-room : goal.lift_all-requires-clause-room
lift_all-requires-clause-room c = λ r l.
    let lt : r < length c.args.self.now.slack.items = omega (arith, c.loop-share.invariant.len) in
    rises_room _ _ _ _ (c.loop-share.invariant.rises r lt) (lost_least (drop c.loop-share.share-index c.args.shares.now) c.args.rows.now r) (c.requires.room r lt) (c.requires.left r lt)

pub lift_all-requires-clause-left : goal.lift_all-requires-clause-left
lift_all-requires-clause-left c = λ r l.
    let lt : r < length c.args.self.now.slack.items = omega (arith, c.loop-share.invariant.len) in
    subst (λ (rows : List ℕ). unsigned_abs (number_at c.loop-share.self.slack.items r +ℤ lost_by (get_or c.args.shares.now c.loop-share.share-index no_share).by rows r) ≤ 2 ^ 38) (sym c.at.ensures)
    (rises_part _ _ (lost_by (get_or c.args.shares.now c.loop-share.share-index no_share).by (get_or c.args.rows.now (get_or c.args.shares.now c.loop-share.share-index no_share).sum []) r) (lost (drop (c.loop-share.share-index + 1) c.args.shares.now) c.args.rows.now r) _ _
    (lost_next c.args.shares.now c.args.rows.now c.loop-share.share-index (get_or c.args.shares.now c.loop-share.share-index no_share) r c.loop-share-test.true (get_or_any c.args.shares.now c.loop-share.share-index _ no_share c.loop-share-test.true))
    (by_least (get_or c.args.shares.now c.loop-share.share-index no_share).by (get_or c.args.rows.now (get_or c.args.shares.now c.loop-share.share-index no_share).sum []) r)
    (lost_least (drop (c.loop-share.share-index + 1) c.args.shares.now) c.args.rows.now r)
    (c.loop-share.invariant.rises r lt) (c.requires.room r lt) (c.requires.left r lt))

pub loop-share-preserved : goal.loop-share-preserved
loop-share-preserved c = record {
  len = c.lift_all.ensures.len ∙ c.loop-share.invariant.len;
  waits = c.lift_all.ensures.waits ∙ c.loop-share.invariant.waits;
  waiting = c.lift_all.ensures.waiting ∙ c.loop-share.invariant.waiting;
  rises = λ r lt. rises_more _ _ (lost_by (get_or c.args.shares.now c.loop-share.share-index no_share).by (get_or c.args.rows.now (get_or c.args.shares.now c.loop-share.share-index no_share).sum []) r) _ _ _ _
      (lost_next c.args.shares.now c.args.rows.now c.loop-share.share-index (get_or c.args.shares.now c.loop-share.share-index no_share) r c.loop-share-test.true (get_or_any c.args.shares.now c.loop-share.share-index _ no_share c.loop-share-test.true))
      (by_least (get_or c.args.shares.now c.loop-share.share-index no_share).by (get_or c.args.rows.now (get_or c.args.shares.now c.loop-share.share-index no_share).sum []) r)
      (c.loop-share.invariant.rises r lt)
      (c.lift_all.ensures.slack r (omega (arith, c.loop-share.invariant.len)) ∙ ap (λ (rows : List ℕ). number_at c.loop-share.self.slack.items r +ℤ lost_by (get_or c.args.shares.now c.loop-share.share-index no_share).by rows r) c.at.ensures);
}

pub returns-clause-slack : goal.returns-clause-slack
returns-clause-slack c = λ r lt. rises_end _ _ _ _ (lost_over c.args.shares.now c.args.rows.now c.loop-share.share-index r (omega (arith, c.loop-share-test.false))) (c.loop-share.invariant.rises r lt)
