use Rattle.std.proofs.Common.{◌≡◌, ℕ, ◌<◌, length, get_or}
use Rattle.zero_one_rows.specs.Variables.{var}
use Rattle.crossing_pricing.specs.Pairs.{IsKey}
use Rattle.crossing_pricing.proofs.pairs.keys_of.Given as goal

abbrev pub invariant-loop-v : goal.invariant-loop-v
invariant-loop-v l = record {
  len : length l.keys ≡ l.v;
  each : (w : ℕ) → w < l.v → IsKey l.model (var l.model w) (get_or l.keys w 0);
}
