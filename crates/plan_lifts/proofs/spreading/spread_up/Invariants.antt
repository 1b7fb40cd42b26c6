use Rattle.std.proofs.Common.{◌≡◌, length}
use Rattle.stow_data.specs.Ship.{places}
use Rattle.plan_lifts.specs.Spread.{has}
use Rattle.plan_lifts.proofs.Spreads.{UpTo}
use Rattle.plan_lifts.proofs.spreading.spread_up.Given as goal

abbrev pub invariant-loop-p : goal.invariant-loop-p
invariant-loop-p l = record {
  up : UpTo l.ship l.plan (has l.initial.set) (has l.set) l.p;
  each_flag : length l.set ≡ length (places l.ship);
}
