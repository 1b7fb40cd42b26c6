use Rattle.std.proofs.Common.{◌≡◌, ℕ, ◌+◌, ◌<◌, [], length, get_or}
use Rattle.crossing_pricing.specs.Pairs.{AreParts}
use Rattle.crossing_pricing.proofs.pairs.sides_of.Given as goal

abbrev pub invariant-loop-price : goal.invariant-loop-price
invariant-loop-price l = record {
  len : length l.prices ≡ l.price;
  each : (q : ℕ) → q < l.price → AreParts l.model l.length (q + 1) (get_or l.prices q []);
}
