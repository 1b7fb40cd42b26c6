use Rattle.std.proofs.Common.{arith, ℕ, List, get_or, ◌+ℤ◌, ◌∙◌, ap}
use borrow.Author.Differences.{ints}
use Rattle.row_matrix.proofs.Summing.{get_or_any}
use Rattle.row_matrix.specs.Terms.{loses, lost_by}
use Rattle.row_matrix.proofs.Stepping.{no_share, lost_next}
use Rattle.row_matrix.proofs.written.append_shares.Goals as goal

pub loop-share-preserved : goal.loop-share-preserved
loop-share-preserved c = λ k.
    let before = c.loop-share.invariant k in
    let next = lost_next c.args.shares.now c.args.rows.now c.loop-share.share-index (get_or c.args.shares.now c.loop-share.share-index no_share) k c.loop-share-test.true (get_or_any c.args.shares.now c.loop-share.share-index _ no_share c.loop-share-test.true) in
    let more = c.in_ok-append_rows.ensures k ∙ ap (λ (rs : List ℕ). loses c.loop-share.losses.items k +ℤ lost_by (get_or c.args.shares.now c.loop-share.share-index no_share).by rs k) c.at.ensures in
    omega (arith, ints, before, next, more)
