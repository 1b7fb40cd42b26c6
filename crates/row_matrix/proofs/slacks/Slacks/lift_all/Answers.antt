use Rattle.std.proofs.Common.{arith, ◌<◌, length, drop, get_or, pos, ◌∙◌}
use Rattle.std.specs.Prelude.{nat_eq}
use Rattle.proof_trees.specs.Program.{where_set}
use Rattle.row_matrix.proofs.Summing.{get_or_any}
use Rattle.row_matrix.proofs.Stepping.{by_next, by_over}
use Rattle.row_matrix.proofs.LeastLosses.{by_least, where_least}
use Rattle.row_matrix.proofs.Moving.{rises_end, rises_more, rises_room}
use Rattle.row_matrix.proofs.slacks.Slacks.lift_all.Goals as goal

pub lift_one-requires : goal.lift_one-requires
lift_one-requires c = record {
  room = λ r l.
      let lt : r < length c.args.self.now.slack.items = omega (arith, c.loop-row.invariant.len) in
      rises_room _ _ _ _ (c.loop-row.invariant.rises r lt) (by_least c.args.by (drop c.loop-row.row-index c.args.rows.now) r) (c.requires.room r lt) (c.requires.left r lt);
}

pub loop-row-preserved : goal.loop-row-preserved
loop-row-preserved c = record {
  len = c.lift_one.ensures.len ∙ c.loop-row.invariant.len;
  waits = c.lift_one.ensures.waits ∙ c.loop-row.invariant.waits;
  waiting = c.lift_one.ensures.waiting ∙ c.loop-row.invariant.waiting;
  rises = λ r lt. rises_more _ _ (where_set (nat_eq (get_or c.args.rows.now c.loop-row.row-index 0) r) (pos c.args.by)) _ _ _ _ (by_next c.args.by c.args.rows.now c.loop-row.row-index (get_or c.args.rows.now c.loop-row.row-index 0) r c.loop-row-test.true (get_or_any c.args.rows.now c.loop-row.row-index _ 0 c.loop-row-test.true)) (where_least (nat_eq (get_or c.args.rows.now c.loop-row.row-index 0) r) c.args.by) (c.loop-row.invariant.rises r lt) (c.lift_one.ensures.slack r (omega (arith, c.loop-row.invariant.len)));
}

pub returns-clause-slack : goal.returns-clause-slack
returns-clause-slack c = λ r lt. rises_end _ _ _ _ (by_over c.args.by c.args.rows.now c.loop-row.row-index r (omega (arith, c.loop-row-test.false))) (c.loop-row.invariant.rises r lt)
