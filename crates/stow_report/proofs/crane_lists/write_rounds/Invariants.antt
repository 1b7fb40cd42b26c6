use Rattle.std.proofs.Common.{◌≡◌, ◌+◌, ◌++◌, drop}
use Rattle.stow_report.specs.CraneLists.{rounds_text}
use Rattle.stow_report.proofs.crane_lists.write_rounds.Given as goal

abbrev pub invariant-loop-moves : goal.invariant-loop-moves
invariant-loop-moves l = record {
  made : l.out ++ rounds_text l.round (drop l.moves-index l.rounds) ≡ l.fn.out ++ rounds_text 1 l.rounds;
  counted : l.round ≡ l.moves-index + 1;
}
