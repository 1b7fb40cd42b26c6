use Rattle.std.proofs.Common.{◌≡◌, ◌≤◌, length, drop}
use Rattle.stow_data.specs.Ship.{places}
use Rattle.arrival_plan.specs.Arriving.{arriving, with_groups}
use Rattle.arrival_plan.specs.Ids.{AreNames}
use Rattle.arrival_plan.proofs.groups.arriving.Given as goal

abbrev pub invariant-loop-index : goal.invariant-loop-index
invariant-loop-index l = record {
  reading : with_groups l.ship l.bookings l.stowage l.index (drop l.index l.groups) ≡ arriving l.ship l.bookings l.groups;
  names : AreNames l.ids l.bookings.containers l.stowage.containers;
  each_place : length l.stowage.plan ≡ length (places l.ship);
  few : length l.stowage.containers ≤ l.index;
}
