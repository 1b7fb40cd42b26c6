use Rattle.std.proofs.Common.{◌+◌, ap}
use Rattle.crane_pictures.proofs.Steps.{move_more, moves_done}
use Rattle.crane_pictures.proofs.shapes.add_round.Goals as goal

pub loop-step-preserved : goal.loop-step-preserved
loop-step-preserved c = record {
  made = rw (c.in_ok-push.ensures, c.shape_at.ensures) (move_more c.args.all.now c.loop-step.shapes _ c.args.round c.loop-step.crane c.args.moves.now c.loop-step.step-index c.step-item.result c.loop-step-test.true c.step-item.is c.loop-step.invariant.made);
  counted = ap (λ n. n + 1) c.loop-step.invariant.counted;
}

pub returns : goal.returns
returns c = moves_done c.args.all.now c.loop-step.shapes _ c.args.round c.loop-step.crane c.args.moves.now c.loop-step.step-index c.loop-step-test.false c.loop-step.invariant.made
