use Rattle.std.proofs.Common.{◌≡◌, ◌*◌, ◌≤◌}
use Rattle.voyage_meaning.specs.Moves.{lift_cost}
use Rattle.plan_lifts.specs.Spread.{has}
use Rattle.plan_lifts.proofs.Exact.{sum_down}
use Rattle.plan_lifts.proofs.listing.cost_of.Given as goal

abbrev pub invariant-loop-p : goal.invariant-loop-p
invariant-loop-p l = record {
  so_far : l.cost ≡ sum_down (lift_cost l.cargo l.call) (has l.set) l.p l.plan;
  small : l.cost ≤ 1000 * l.p;
}
