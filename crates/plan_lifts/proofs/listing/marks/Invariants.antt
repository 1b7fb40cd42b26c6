use Rattle.std.proofs.Common.{◌≡◌, length}
use Rattle.plan_lifts.specs.Spread.{has}
use Rattle.plan_lifts.specs.Lifted.{StandsInAt}
use Rattle.plan_lifts.proofs.Spreads.{GatheredTo}
use Rattle.plan_lifts.proofs.listing.marks.Given as goal

abbrev pub invariant-loop-p : goal.invariant-loop-p
invariant-loop-p l = record {
  gathered : GatheredTo (StandsInAt l.plan (has l.set)) (has l.marked) l.p;
  each : length l.marked ≡ length l.cargo.containers;
}
