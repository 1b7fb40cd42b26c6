use Rattle.std.proofs.Common.{arith, drop, get_or, pos}
use Rattle.std.specs.Prelude.{nat_eq}
use Rattle.proof_trees.specs.Program.{where_set}
use Rattle.row_matrix.proofs.Summing.{get_or_any}
use Rattle.row_matrix.proofs.Stepping.{by_next, by_over}
use Rattle.row_matrix.proofs.LeastLosses.{by_least, where_least}
use Rattle.row_matrix.proofs.Moving.{falls_end, falls_more, falls_room, marked_more}
use Rattle.row_matrix.proofs.slacks.Slacks.lower_all.Goals as goal

pub lower_one-requires-clause-room : goal.lower_one-requires-clause-room
lower_one-requires-clause-room c = λ r lt. falls_room _ _ _ _ (c.loop-row.invariant.falls r lt) (by_least c.args.by (drop c.loop-row.row-index c.args.rows.now) r) (c.requires.room r lt) (c.requires.left r lt)

pub loop-row-preserved : goal.loop-row-preserved
loop-row-preserved c = record {
  short = c.lower_one.ensures.short;
  falls = λ r lt. falls_more _ _ (where_set (nat_eq (get_or c.args.rows.now c.loop-row.row-index 0) r) (pos c.args.by)) _ _ _ _ (by_next c.args.by c.args.rows.now c.loop-row.row-index (get_or c.args.rows.now c.loop-row.row-index 0) r c.loop-row-test.true (get_or_any c.args.rows.now c.loop-row.row-index _ 0 c.loop-row-test.true)) (where_least (nat_eq (get_or c.args.rows.now c.loop-row.row-index 0) r) c.args.by) (c.loop-row.invariant.falls r lt) (c.lower_one.ensures.slack r lt);
  waits = marked_more c.args.tops.now c.args.self.now c.loop-row.self c.lower_one.new.self c.loop-row.invariant.waits c.lower_one.ensures.waits;
}

pub returns-clause-slack : goal.returns-clause-slack
returns-clause-slack c = λ r lt. falls_end _ _ _ _ (by_over c.args.by c.args.rows.now c.loop-row.row-index r (omega (arith, c.loop-row-test.false))) (c.loop-row.invariant.falls r lt)
