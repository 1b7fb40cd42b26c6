use Rattle.std.proofs.Common.{ℕ, ◌<◌, ◌≤◌, length}
use Rattle.stow_data.specs.Ship.{places}
use Rattle.stowage_rules.specs.Faults.{IsOverweight}
use Rattle.stowage_rules.proofs.weights.first_heavy.Given as goal

abbrev pub invariant-loop-s : goal.invariant-loop-s
invariant-loop-s l = record {
  inside : l.from ≤ length (places l.ship);
  none : (n : ℕ) → n < l.s → (kg : ℕ) → IsOverweight l.ship l.cargo l.plan n kg → ⊥;
}
