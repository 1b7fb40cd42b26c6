use Rattle.std.proofs.Common.{arith, ◌<◌, length, drop, get_or, pos, ◌∙◌}
use Rattle.std.specs.Prelude.{nat_eq}
use Rattle.proof_trees.specs.Program.{where_set}
use Rattle.row_matrix.proofs.Summing.{get_or_any}
use Rattle.row_matrix.proofs.Stepping.{no_loss, loses_next, loses_over}
use Rattle.row_matrix.proofs.LeastLosses.{loses_least, where_least}
use Rattle.row_matrix.proofs.Moving.{rises_end, rises_more, rises_room}
use Rattle.row_matrix.proofs.slacks.Slacks.lift_each.Goals as goal

pub lift_one-requires : goal.lift_one-requires
lift_one-requires c = record {
  room = λ r l.
      let lt : r < length c.args.self.now.slack.items = omega (arith, c.loop-loss.invariant.len) in
      rises_room _ _ _ _ (c.loop-loss.invariant.rises r lt) (loses_least (drop c.loop-loss.loss-index c.args.losses.now) r) (c.requires.room r lt) (c.requires.left r lt);
}

pub loop-loss-preserved : goal.loop-loss-preserved
loop-loss-preserved c = record {
  len = c.lift_one.ensures.len ∙ c.loop-loss.invariant.len;
  waits = c.lift_one.ensures.waits ∙ c.loop-loss.invariant.waits;
  waiting = c.lift_one.ensures.waiting ∙ c.loop-loss.invariant.waiting;
  rises = λ r lt. rises_more _ _ (where_set (nat_eq (get_or c.args.losses.now c.loop-loss.loss-index no_loss).row r) (pos (get_or c.args.losses.now c.loop-loss.loss-index no_loss).by)) _ _ _ _ (loses_next c.args.losses.now c.loop-loss.loss-index (get_or c.args.losses.now c.loop-loss.loss-index no_loss) r c.loop-loss-test.true (get_or_any c.args.losses.now c.loop-loss.loss-index _ no_loss c.loop-loss-test.true)) (where_least (nat_eq (get_or c.args.losses.now c.loop-loss.loss-index no_loss).row r) (get_or c.args.losses.now c.loop-loss.loss-index no_loss).by) (c.loop-loss.invariant.rises r lt) (c.lift_one.ensures.slack r (omega (arith, c.loop-loss.invariant.len)));
}

pub returns-clause-slack : goal.returns-clause-slack
returns-clause-slack c = λ r lt. rises_end _ _ _ _ (loses_over c.args.losses.now c.loop-loss.loss-index r (omega (arith, c.loop-loss-test.false))) (c.loop-loss.invariant.rises r lt)
