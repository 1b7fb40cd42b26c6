use Rattle.std.proofs.Common.{◌-◌, length}
use Rattle.bound_checker.specs.Subtrees.{Stays}
use Rattle.bound_checker.proofs.settled.go_through.Given as goal

abbrev pub invariant-loop-at : goal.invariant-loop-at
invariant-loop-at l = Stays l.model l.most l.tree l.at.place l.at.best l.walk

abbrev pub decreases-loop-at : goal.decreases-loop-at
decreases-loop-at l = length l.tree - l.at.place
