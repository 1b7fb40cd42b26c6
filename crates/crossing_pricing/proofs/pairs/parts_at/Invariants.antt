use Rattle.std.proofs.Common.{◌≡◌, ℕ, ◌<◌, ◌≤◌, ◌^◌, ◌/◌, ◌%◌, length}
use Rattle.std.specs.Int.RustNames.{unsigned_abs}
use Rattle.crossing_pricing.specs.Gaps.{number_at}
use Rattle.crossing_pricing.specs.Pairs.{own_part}
use Rattle.crossing_pricing.proofs.pairs.parts_at.Given as goal

abbrev pub invariant-loop-pair : goal.invariant-loop-pair
invariant-loop-pair l = record {
  len : length l.parts ≡ 169;
  each : (k : ℕ) → k < l.pair → number_at l.parts k ≡ own_part l.model l.length l.price (k / 13) (k % 13);
  low : (k : ℕ) → k < 169 → unsigned_abs (number_at l.parts k) ≤ 2 ^ 37;
}
