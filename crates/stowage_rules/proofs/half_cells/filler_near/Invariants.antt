use Rattle.std.proofs.Common.{ℕ, ◌<◌}
use Rattle.stowage_rules.specs.Places.{FillsFrom}
use Rattle.stowage_rules.proofs.half_cells.filler_near.Given as goal

abbrev pub invariant-loop-p : goal.invariant-loop-p
invariant-loop-p l = (n : ℕ) → n < l.p → (c : ℕ) → FillsFrom l.ship l.plan n l.h c → ⊥
