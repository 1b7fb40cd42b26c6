use Rattle.std.proofs.Common.{◌≤◌}
use Rattle.crossing_pricing.proofs.tracing.chain_at.Given as goal

abbrev pub invariant-loop-load : goal.invariant-loop-load
invariant-loop-load l = l.trail.dest ≤ 13
