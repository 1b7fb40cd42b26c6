use Rattle.std.proofs.Common.{◌≡◌, ◌≤◌, ◌*◌, length, take}
use Rattle.std.specs.List.{sum_by}
use Rattle.crane_pictures.proofs.totals.moves_in.Given as goal

abbrev pub invariant-loop-round : goal.invariant-loop-round
invariant-loop-round l = (l.moves ≡ sum_by length (take l.round-index l.rounds)) × (l.moves ≤ 8 * l.round-index)
