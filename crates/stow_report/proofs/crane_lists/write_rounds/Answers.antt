use Rattle.std.proofs.Common.{◌+◌, ◌++◌, ◌∙◌, ap, List}
use Rattle.stow_report.specs.declared.crane_lists.CraneMove.{CraneMove}
use Rattle.stow_report.specs.CraneLists.{round_text}
use Rattle.stow_report.proofs.Rounds.{round_more, rounds_done}
use Rattle.stow_report.proofs.crane_lists.write_rounds.Goals as goal

pub loop-moves-preserved : goal.loop-moves-preserved
loop-moves-preserved c =
    let same = c.in_ok-write_round.ensures ∙ ap (λ (ms : List CraneMove). c.loop-moves.out ++ round_text c.loop-moves.round 1 ms) c.as_slice.ensures in
    record {
      made = rw same (round_more c.loop-moves.out _ c.loop-moves.round c.args.rounds.now c.loop-moves.moves-index c.moves-item.result c.loop-moves-test.true c.moves-item.is c.loop-moves.invariant.made);
      counted = ap (λ n. n + 1) c.loop-moves.invariant.counted;
    }

pub returns : goal.returns
returns c = rounds_done c.loop-moves.out _ c.loop-moves.round c.args.rounds.now c.loop-moves.moves-index c.loop-moves-test.false c.loop-moves.invariant.made
