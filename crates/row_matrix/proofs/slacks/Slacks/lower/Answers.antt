use Rattle.std.proofs.Common.{arith, ◌+◌, ℕ, List, [], drop, get_or, sym, ap, subst, ◌∙◌, ◌≤◌, ◌^◌, ◌-ℤ◌}
use Rattle.std.specs.Int.RustNames.{unsigned_abs}
use Rattle.row_matrix.specs.Terms.{lost, lost_by}
use Rattle.row_matrix.specs.Waiting.{number_at}
use Rattle.row_matrix.proofs.Summing.{get_or_any}
use Rattle.row_matrix.proofs.Stepping.{no_share, lost_next, lost_over}
use Rattle.row_matrix.proofs.LeastLosses.{by_least, lost_least}
use Rattle.row_matrix.proofs.Moving.{falls_end, falls_more, falls_part, falls_room, marked_more}
use Rattle.row_matrix.proofs.slacks.Slacks.lower.Goals as goal

pub lower_all-requires-clause-room : goal.lower_all-requires-clause-room
lower_all-requires-clause-room c = λ r lt. falls_room _ _ _ _ (c.loop-share.invariant.falls r lt) (lost_least (drop c.loop-share.share-index c.args.shares.now) c.args.rows.now r) (c.requires.room r lt) (c.requires.left r lt)

pub lower_all-requires-clause-left : goal.lower_all-requires-clause-left
lower_all-requires-clause-left c = λ r lt.
    subst (λ (rows : List ℕ). unsigned_abs (number_at c.loop-share.self.slack.items r -ℤ lost_by (get_or c.args.shares.now c.loop-share.share-index no_share).by rows r) ≤ 2 ^ 38) (sym c.at.ensures)
    (falls_part _ _ (lost_by (get_or c.args.shares.now c.loop-share.share-index no_share).by (get_or c.args.rows.now (get_or c.args.shares.now c.loop-share.share-index no_share).sum []) r) (lost (drop (c.loop-share.share-index + 1) c.args.shares.now) c.args.rows.now r) _ _
    (lost_next c.args.shares.now c.args.rows.now c.loop-share.share-index (get_or c.args.shares.now c.loop-share.share-index no_share) r c.loop-share-test.true (get_or_any c.args.shares.now c.loop-share.share-index _ no_share c.loop-share-test.true))
    (by_least (get_or c.args.shares.now c.loop-share.share-index no_share).by (get_or c.args.rows.now (get_or c.args.shares.now c.loop-share.share-index no_share).sum []) r)
    (lost_least (drop (c.loop-share.share-index + 1) c.args.shares.now) c.args.rows.now r)
    (c.loop-share.invariant.falls r lt) (c.requires.room r lt) (c.requires.left r lt))

pub loop-share-preserved : goal.loop-share-preserved
loop-share-preserved c = record {
  short = c.lower_all.ensures.short;
  falls = λ r lt. falls_more _ _ (lost_by (get_or c.args.shares.now c.loop-share.share-index no_share).by (get_or c.args.rows.now (get_or c.args.shares.now c.loop-share.share-index no_share).sum []) r) _ _ _ _
      (lost_next c.args.shares.now c.args.rows.now c.loop-share.share-index (get_or c.args.shares.now c.loop-share.share-index no_share) r c.loop-share-test.true (get_or_any c.args.shares.now c.loop-share.share-index _ no_share c.loop-share-test.true))
      (by_least (get_or c.args.shares.now c.loop-share.share-index no_share).by (get_or c.args.rows.now (get_or c.args.shares.now c.loop-share.share-index no_share).sum []) r)
      (c.loop-share.invariant.falls r lt)
      (c.lower_all.ensures.slack r lt ∙ ap (λ (rows : List ℕ). number_at c.loop-share.self.slack.items r -ℤ lost_by (get_or c.args.shares.now c.loop-share.share-index no_share).by rows r) c.at.ensures);
  waits = marked_more c.args.tops.now c.args.self.now c.loop-share.self c.lower_all.new.self c.loop-share.invariant.waits c.lower_all.ensures.waits;
}

pub returns-clause-slack : goal.returns-clause-slack
returns-clause-slack c = λ r lt. falls_end _ _ _ _ (lost_over c.args.shares.now c.args.rows.now c.loop-share.share-index r (omega (arith, c.loop-share-test.false))) (c.loop-share.invariant.falls r lt)
