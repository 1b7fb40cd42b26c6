use Rattle.std.proofs.Common.{◌≡◌, length, drop}
use Rattle.stow_data.specs.Ship.{places}
use Rattle.plan_files.specs.PlanOf.{standing, with_groups}
use Rattle.plan_files.proofs.reading.standing.Given as goal

abbrev pub invariant-loop-index : goal.invariant-loop-index
invariant-loop-index l = record {
  reading : with_groups l.ship l.cargo l.call l.standing l.index (drop l.index l.groups) ≡ standing l.ship l.cargo l.call l.groups;
  each_place : length l.standing.plan ≡ length (places l.ship);
  each_container : length l.standing.placed ≡ length l.cargo.containers;
}
