use Rattle.std.proofs.Common.{◌≡◌, take}
use Rattle.crane_lists.specs.Tasks.{tasks_with}
use Rattle.work_lists.proofs.printing.tasks_with.Given as goal

abbrev pub invariant-loop-i : goal.invariant-loop-i
invariant-loop-i l = l.tasks ≡ tasks_with (take l.i l.moves) (take l.i l.lifted)
