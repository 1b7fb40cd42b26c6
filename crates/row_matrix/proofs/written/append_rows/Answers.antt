use Rattle.std.proofs.Common.{arith, get_or}
use borrow.Author.Differences.{ints}
use Rattle.row_matrix.proofs.Summing.{get_or_any}
use Rattle.row_matrix.proofs.Stepping.{by_next, by_over}
use Rattle.row_matrix.proofs.written.append_rows.Goals as goal

pub loop-row-preserved : goal.loop-row-preserved
loop-row-preserved c = λ k.
    let before = c.loop-row.invariant k in
    let next = by_next c.args.by c.args.rows.now c.loop-row.row-index (get_or c.args.rows.now c.loop-row.row-index 0) k c.loop-row-test.true (get_or_any c.args.rows.now c.loop-row.row-index _ 0 c.loop-row-test.true) in
    let more = c.in_ok-append_row.ensures k in
    omega (arith, ints, before, next, more)

pub returns : goal.returns
returns c = λ k.
    let all = c.loop-row.invariant k in
    let none = by_over c.args.by c.args.rows.now c.loop-row.row-index k c.loop-row-test.false in
    omega (arith, ints, all, none)
