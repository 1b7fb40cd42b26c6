use Rattle.std.proofs.Common.{◌≡◌, ◌++◌, drop}
use Rattle.crane_lists.specs.Tasks.{named_from}
use Rattle.crane_lists.proofs.tasks.containers_of.Given as goal

abbrev pub invariant-loop-m : goal.invariant-loop-m
invariant-loop-m l = l.lifted ++ named_from l.plan (drop l.m-index l.moves) ≡ named_from l.before l.moves
