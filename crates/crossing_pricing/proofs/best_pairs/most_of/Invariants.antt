use Rattle.std.proofs.Common.{ℕ, ◌<◌, ◌≤◌, ◌^◌, List, length, ◌≤ℤ◌}
use Rattle.std.specs.Int.RustNames.{unsigned_abs}
use Rattle.crossing_pricing.specs.Climbs.{over_pairs, Climb, worth_at}
use Rattle.crossing_pricing.proofs.best_pairs.most_of.Given as goal

abbrev pub invariant-loop-floor : goal.invariant-loop-floor
invariant-loop-floor l = record {
  most : (floor : ℕ) (qs : List (ℕ × ℕ)) → floor < l.floor → Climb l.last floor 0 floor qs → 2 ≤ length qs → over_pairs (worth_at l.sides l.gaps l.from) qs ≤ℤ l.most;
  small : unsigned_abs l.most ≤ 2 ^ 50;
}
