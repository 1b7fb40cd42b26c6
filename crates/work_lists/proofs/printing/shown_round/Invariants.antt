use Rattle.std.proofs.Common.{◌≡◌, take}
use Rattle.work_lists.specs.Shown.{shown_round}
use Rattle.work_lists.proofs.printing.shown_round.Given as goal

abbrev pub invariant-loop-i : goal.invariant-loop-i
invariant-loop-i l = l.moves ≡ shown_round l.ship l.cargo l.tasks (take l.i-index l.round)
