use Rattle.std.proofs.Common.{ℕ, ◌<◌, ◌≤◌, length}
use Rattle.stow_data.specs.Ship.{places}
use Rattle.stowage_rules.specs.Faults.{IsTwentyOnForty, OfHalf}
use Rattle.stowage_rules.proofs.supports.first_twenty_on_forty.Given as goal

abbrev pub invariant-loop-h : goal.invariant-loop-h
invariant-loop-h l = record {
  inside : l.near ≤ length (places l.ship);
  none : (n : ℕ) → n < l.h → OfHalf l.ship (IsTwentyOnForty l.ship l.cargo l.plan) n → ⊥;
}
