use Rattle.std.proofs.Common.{◌≡◌, ◌+◌, ◌++◌, drop}
use Rattle.crane_pictures.specs.Shapes.{round_shapes}
use Rattle.crane_pictures.proofs.shapes.add_round.Given as goal

abbrev pub invariant-loop-step : goal.invariant-loop-step
invariant-loop-step l = record {
  made : l.shapes ++ round_shapes l.all l.round l.crane (drop l.step-index l.moves) ≡ l.fn.shapes ++ round_shapes l.all l.round 1 l.moves;
  counted : l.crane ≡ l.step-index + 1;
}
