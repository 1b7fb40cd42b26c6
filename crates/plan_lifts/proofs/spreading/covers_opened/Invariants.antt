use Rattle.std.proofs.Common.{◌≡◌, length}
use Rattle.plan_lifts.specs.Spread.{has, IsOpenedBy}
use Rattle.plan_lifts.proofs.Spreads.{GatheredTo}
use Rattle.plan_lifts.proofs.spreading.covers_opened.Given as goal

abbrev pub invariant-loop-p : goal.invariant-loop-p
invariant-loop-p l = record {
  opens : GatheredTo (IsOpenedBy l.ship (has l.set)) (has l.opened) l.p;
  each_cover : length l.opened ≡ length l.ship.covers;
}
