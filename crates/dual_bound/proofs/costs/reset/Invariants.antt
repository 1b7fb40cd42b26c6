use Rattle.std.proofs.Common.{◌≡◌, ℕ, ◌<◌, ◌≤◌, length, pos, ◌*ℤ◌}
use Rattle.std.specs.Int.RustNames.{unsigned_abs}
use Rattle.zero_one_rows.specs.Variables.{variables}
use Rattle.zero_one_rows.specs.Rows.{whole}
use Rattle.crossing_pricing.specs.Gaps.{number_at}
use Rattle.dual_bound.proofs.costs.reset.Given as goal

abbrev pub invariant-loop-v : goal.invariant-loop-v
invariant-loop-v l = record {
  len : length l.reduced ≡ length (variables l.model);
  each : (v : ℕ) → v < l.v → number_at l.reduced v ≡ pos 16 *ℤ (whole l.model).cost v;
  small : (v : ℕ) → v < l.v → unsigned_abs (number_at l.reduced v) ≤ 16000;
}
