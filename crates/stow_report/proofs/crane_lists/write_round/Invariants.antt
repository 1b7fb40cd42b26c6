use Rattle.std.proofs.Common.{◌≡◌, ◌+◌, ◌++◌, drop}
use Rattle.stow_report.specs.CraneLists.{round_text}
use Rattle.stow_report.proofs.crane_lists.write_round.Given as goal

abbrev pub invariant-loop-step : goal.invariant-loop-step
invariant-loop-step l = record {
  made : l.out ++ round_text l.round l.crane (drop l.step-index l.moves) ≡ l.fn.out ++ round_text l.round 1 l.moves;
  counted : l.crane ≡ l.step-index + 1;
}
