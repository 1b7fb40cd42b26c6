use Rattle.std.proofs.Common.{◌+◌, ◌++◌, ◌∙◌, ap, List}
use Rattle.stow_report.specs.declared.crane_lists.CraneMove.{CraneMove}
use Rattle.crane_pictures.specs.Shapes.{round_shapes}
use Rattle.crane_pictures.proofs.Steps.{round_more, rounds_done}
use Rattle.crane_pictures.proofs.shapes.shapes_of.Goals as goal

pub loop-moves-preserved : goal.loop-moves-preserved
loop-moves-preserved c =
    let same = c.in_ok-add_round.ensures ∙ ap (λ (ms : List CraneMove). c.loop-moves.shapes ++ round_shapes c.args.rounds.now c.loop-moves.round 1 ms) c.as_slice.ensures in
    record {
      made = rw same (round_more c.args.rounds.now c.loop-moves.shapes _ c.loop-moves.round c.args.rounds.now c.loop-moves.moves-index c.moves-item.result c.loop-moves-test.true c.moves-item.is c.loop-moves.invariant.made);
      counted = ap (λ n. n + 1) c.loop-moves.invariant.counted;
    }

pub returns : goal.returns
returns c = rounds_done c.args.rounds.now c.loop-moves.shapes _ c.loop-moves.round c.args.rounds.now c.loop-moves.moves-index c.loop-moves-test.false c.loop-moves.invariant.made
