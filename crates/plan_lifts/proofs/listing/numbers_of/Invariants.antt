use Rattle.plan_lifts.specs.Spread.{has}
use Rattle.plan_lifts.proofs.LiftsHold.{ListedTo}
use Rattle.plan_lifts.proofs.listing.numbers_of.Given as goal

abbrev pub invariant-loop-c : goal.invariant-loop-c
invariant-loop-c l = ListedTo (has l.marked) l.list l.c
