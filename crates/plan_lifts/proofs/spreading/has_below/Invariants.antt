use Rattle.std.proofs.Common.{ℕ, ◌≤◌, ◌+◌}
use Rattle.plan_lifts.specs.Spread.{has, IsAbove}
use Rattle.plan_lifts.proofs.spreading.has_below.Given as goal

abbrev pub invariant-loop-steps : goal.invariant-loop-steps
invariant-loop-steps l = (q : ℕ) → l.p ≤ q + l.steps → IsAbove l.ship (has l.set) l.p q → ⊥
