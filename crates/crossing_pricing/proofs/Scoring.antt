-- Scores of pairs of calls take the place of what pairs bring.
use Rattle.std.proofs.Common.{◌≡◌, ℕ, ◌<◌, ◌≤◌, ◌^◌, List, length, ℤ, pos, arith}
use Rattle.std.specs.Prelude.{replicate}
use Rattle.std.specs.Int.RustNames.{unsigned_abs}
use Rattle.crossing_pricing.specs.Gaps.{number_at}
use Rattle.crossing_pricing.specs.Climbs.{AreWorths}
use Rattle.crossing_pricing.proofs.PairSums.{zeros_low}

pub scores_are : (s : List ℤ) → length s ≡ 169 → ((k : ℕ) → k < 169 → unsigned_abs (number_at s k) ≤ 2 ^ 37) → AreWorths s (replicate 169 (pos 0)) 0
scores_are s len low = record {
  sides_len = len;
  gaps_len = omega arith;
  sides_low = λ k lt. low k (omega (arith, len));
  gaps_low = λ k lt. zeros_low 169 k (2 ^ 18);
}
