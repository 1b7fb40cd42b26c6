use Rattle.std.proofs.Common.{◌≡◌, length}
use Rattle.crane_lists.proofs.ordering.chains_of.Given as goal

abbrev pub invariant-loop-done : goal.invariant-loop-done
invariant-loop-done l = length l.chains ≡ l.count
