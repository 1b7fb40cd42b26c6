use Rattle.std.proofs.Common.{arith, drop, get_or, pos}
use Rattle.std.specs.Prelude.{nat_eq}
use Rattle.proof_trees.specs.Program.{where_set}
use Rattle.row_matrix.proofs.Summing.{get_or_any}
use Rattle.row_matrix.proofs.Stepping.{no_loss, loses_next, loses_over}
use Rattle.row_matrix.proofs.LeastLosses.{loses_least, where_least}
use Rattle.row_matrix.proofs.Moving.{falls_end, falls_more, falls_room, marked_more}
use Rattle.row_matrix.proofs.slacks.Slacks.lower_each.Goals as goal

pub lower_one-requires-clause-room : goal.lower_one-requires-clause-room
lower_one-requires-clause-room c = λ r lt. falls_room _ _ _ _ (c.loop-loss.invariant.falls r lt) (loses_least (drop c.loop-loss.loss-index c.args.losses.now) r) (c.requires.room r lt) (c.requires.left r lt)

pub loop-loss-preserved : goal.loop-loss-preserved
loop-loss-preserved c =
    record {
      short = c.lower_one.ensures.short;
      falls = λ r lt. falls_more _ _ (where_set (nat_eq (get_or c.args.losses.now c.loop-loss.loss-index no_loss).row r) (pos (get_or c.args.losses.now c.loop-loss.loss-index no_loss).by)) _ _ _ _ (loses_next c.args.losses.now c.loop-loss.loss-index (get_or c.args.losses.now c.loop-loss.loss-index no_loss) r c.loop-loss-test.true (get_or_any c.args.losses.now c.loop-loss.loss-index _ no_loss c.loop-loss-test.true)) (where_least (nat_eq (get_or c.args.losses.now c.loop-loss.loss-index no_loss).row r) (get_or c.args.losses.now c.loop-loss.loss-index no_loss).by) (c.loop-loss.invariant.falls r lt) (c.lower_one.ensures.slack r lt);
      waits = marked_more c.args.tops.now c.args.self.now c.loop-loss.self c.lower_one.new.self c.loop-loss.invariant.waits c.lower_one.ensures.waits;
    }

pub returns-clause-slack : goal.returns-clause-slack
returns-clause-slack c = λ r lt. falls_end _ _ _ _ (loses_over c.args.losses.now c.loop-loss.loss-index r (omega (arith, c.loop-loss-test.false))) (c.loop-loss.invariant.falls r lt)
