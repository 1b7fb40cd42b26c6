use Rattle.std.proofs.Common.{◌≤◌}
use Rattle.dual_bound.proofs.costs.Costs.doubled.Given as goal

abbrev pub invariant-loop : goal.invariant-loop
invariant-loop l = record {
  least : 1 ≤ l.more;
  most : l.more ≤ l.room;
}
