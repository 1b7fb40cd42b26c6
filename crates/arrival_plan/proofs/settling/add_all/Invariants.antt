use Rattle.std.proofs.Common.{◌≡◌, ◌++◌, take}
use Rattle.arrival_plan.proofs.settling.add_all.Given as goal

abbrev pub invariant-loop-number : goal.invariant-loop-number
invariant-loop-number l = l.containers ≡ l.initial.containers ++ take l.number l.cargo.containers
