use Rattle.std.proofs.Common.{◌≡◌, length, ℕ, true}
use Rattle.stow_data.specs.Ship.{places}
use Rattle.plan_lifts.specs.Spread.{has}
use Rattle.plan_lifts.proofs.Spreads.{PickedTo}
use Rattle.plan_lifts.proofs.moving.add_all.Given as goal

abbrev pub invariant-loop-p : goal.invariant-loop-p
invariant-loop-p l = record {
  picked : PickedTo (has l.initial.set) (λ (p : ℕ). has l.other p ≡ true) (has l.set) l.p;
  each_flag : length l.set ≡ length (places l.ship);
}
