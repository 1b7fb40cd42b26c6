use Rattle.std.proofs.Common.{ℕ, ◌+◌, ◌≤◌}
use Rattle.greedy_loader.specs.Rule.{NoneEarlierAt}
use Rattle.greedy_loader.proofs.clearing.is_clean_below.Given as goal

abbrev pub invariant-loop-steps : goal.invariant-loop-steps
invariant-loop-steps l = (q : ℕ) → l.fn.p ≤ q + l.steps → NoneEarlierAt l.ship l.cargo l.plan l.call l.place q
