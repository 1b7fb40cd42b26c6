use Rattle.std.proofs.Common.{length}
use Rattle.greedy_loader.proofs.Sailing.{SailsTo}
use Rattle.greedy_loader.proofs.departing.load.Given as goal

abbrev pub invariant-loop-call : goal.invariant-loop-call
invariant-loop-call l = SailsTo l.ship l.cargo (length l.cargo.rotation) l.call l.before l.plans
