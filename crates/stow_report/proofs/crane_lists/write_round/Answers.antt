use Rattle.std.proofs.Common.{◌+◌, ap}
use Rattle.stow_report.proofs.Rounds.{line_more, lines_done}
use Rattle.stow_report.proofs.crane_lists.write_round.Goals as goal

pub loop-step-preserved : goal.loop-step-preserved
loop-step-preserved c = record {
  made = rw c.in_ok-write_line.ensures (line_more c.loop-step.out _ c.args.round c.loop-step.crane c.args.moves.now c.loop-step.step-index c.step-item.result c.loop-step-test.true c.step-item.is c.loop-step.invariant.made);
  counted = ap (λ n. n + 1) c.loop-step.invariant.counted;
}

pub returns : goal.returns
returns c = lines_done c.loop-step.out _ c.args.round c.loop-step.crane c.args.moves.now c.loop-step.step-index c.loop-step-test.false c.loop-step.invariant.made
