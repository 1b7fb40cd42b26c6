use Rattle.std.proofs.Common.{◌≤◌}
use Rattle.dual_bound.proofs.costs.Costs.guess.Given as goal

abbrev pub invariant-loop-step : goal.invariant-loop-step
invariant-loop-step l = record {
  least : 1 ≤ l.low;
  most : l.low ≤ l.room;
  small : l.step ≤ l.room;
}

abbrev pub decreases-loop-step : goal.decreases-loop-step
decreases-loop-step l = l.step
