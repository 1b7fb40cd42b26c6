use Rattle.std.proofs.Common.{ℕ, ◌<◌}
use Rattle.stowage_rules.specs.Faults.{AreTooNear}
use Rattle.stowage_rules.proofs.separation.first_near.Given as goal

abbrev pub invariant-loop-p : goal.invariant-loop-p
invariant-loop-p l = (n : ℕ) → n < l.p → (q : ℕ) → AreTooNear l.ship l.cargo l.plan l.rule n q → ⊥
