use Rattle.std.proofs.Common.{◌≡◌, ◌≤◌, ◌*◌, take}
use Rattle.std.specs.Prelude.{sum_by, zip}
use Rattle.stow_data.specs.Ship.{places}
use Rattle.stowage_rules.specs.Departure.{weight_in}
use Rattle.stowage_rules.proofs.weights.weight_of_stack.Given as goal

abbrev pub invariant-loop-p : goal.invariant-loop-p
invariant-loop-p l = record {
  so_far : l.total ≡ sum_by (weight_in l.ship.weight_step l.cargo l.s) (take l.p (zip (places l.ship) l.plan));
  small : l.total ≤ 110000 * l.p;
}
