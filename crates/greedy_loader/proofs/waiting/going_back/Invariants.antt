use Rattle.std.proofs.Common.{◌≡◌, length}
use Rattle.plan_lifts.specs.Spread.{has}
use Rattle.plan_lifts.proofs.Spreads.{GatheredTo}
use Rattle.greedy_loader.specs.Calls.{GoesBackFrom}
use Rattle.greedy_loader.proofs.waiting.going_back.Given as goal

abbrev pub invariant-loop-p : goal.invariant-loop-p
invariant-loop-p l = record {
  gathered : GatheredTo (GoesBackFrom l.cargo l.call l.before (has l.lifted)) (has l.marked) l.p;
  each : length l.marked ≡ length l.cargo.containers;
}
