use Rattle.std.proofs.Common.{◌≡◌, take}
use Rattle.work_lists.specs.Shown.{shown_rounds}
use Rattle.work_lists.proofs.printing.shown_rounds.Given as goal

abbrev pub invariant-loop-round : goal.invariant-loop-round
invariant-loop-round l = l.shown ≡ shown_rounds l.ship l.cargo l.tasks (take l.round-index l.rounds)
