use Rattle.std.proofs.Common.{◌≡◌, length}
use Rattle.stow_data.specs.Ship.{places}
use Rattle.plan_lifts.specs.Spread.{has, IsOnOpened}
use Rattle.plan_lifts.proofs.Spreads.{PickedTo}
use Rattle.plan_lifts.proofs.spreading.add_on_opened.Given as goal

abbrev pub invariant-loop-p : goal.invariant-loop-p
invariant-loop-p l = record {
  on : PickedTo (has l.initial.set) (IsOnOpened l.ship l.plan (has l.opened)) (has l.set) l.p;
  each_flag : length l.set ≡ length (places l.ship);
}
