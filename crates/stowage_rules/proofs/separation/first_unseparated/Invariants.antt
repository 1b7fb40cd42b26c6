use Rattle.std.proofs.Common.{ℕ, ◌<◌}
use Rattle.stowage_rules.specs.Faults.{IsUnseparated}
use Rattle.stowage_rules.proofs.separation.first_unseparated.Given as goal

abbrev pub invariant-loop-e : goal.invariant-loop-e
invariant-loop-e l = (n : ℕ) → n < l.e → (p q : ℕ) → IsUnseparated l.ship l.cargo l.plan n p q → ⊥
