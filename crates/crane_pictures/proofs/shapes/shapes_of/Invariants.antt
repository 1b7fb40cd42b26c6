use Rattle.std.proofs.Common.{◌≡◌, ◌+◌, ◌++◌, drop}
use Rattle.crane_pictures.specs.Shapes.{shapes_from}
use Rattle.crane_pictures.proofs.shapes.shapes_of.Given as goal

abbrev pub invariant-loop-moves : goal.invariant-loop-moves
invariant-loop-moves l = record {
  made : l.shapes ++ shapes_from l.rounds l.round (drop l.moves-index l.rounds) ≡ shapes_from l.rounds 1 l.rounds;
  counted : l.round ≡ l.moves-index + 1;
}
