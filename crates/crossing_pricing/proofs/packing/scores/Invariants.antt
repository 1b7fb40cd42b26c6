use Rattle.std.proofs.Common.{◌≡◌, ℕ, ◌<◌, ◌≤◌, ◌^◌, length}
use Rattle.std.specs.Int.RustNames.{unsigned_abs}
use Rattle.crossing_pricing.specs.Gaps.{number_at}
use Rattle.crossing_pricing.proofs.packing.scores.Given as goal

abbrev pub invariant-loop-pair : goal.invariant-loop-pair
invariant-loop-pair l = record {
  len : length l.scores ≡ 169;
  low : (k : ℕ) → k < 169 → unsigned_abs (number_at l.scores k) ≤ 2 ^ 37;
}
