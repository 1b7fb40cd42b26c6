use Rattle.std.proofs.Common.{◌≡◌, ℕ, ◌<◌, ◌≤◌, ◌^◌, length, ◌+ℤ◌, ◌*ℤ◌}
use Rattle.std.specs.Int.RustNames.{unsigned_abs}
use Rattle.zero_one_rows.specs.Variables.{variables}
use Rattle.zero_one_rows.specs.Rows.{whole}
use Rattle.crossing_pricing.specs.Gaps.{number_at}
use Rattle.event_search.proofs.tally.add_to_all.Given as goal

abbrev pub invariant-loop-v : goal.invariant-loop-v
invariant-loop-v l = record {
  len : length l.weights ≡ length (variables l.model);
  sums : (x : ℕ) → x < l.v → number_at l.weights x ≡ number_at l.fn.weights x +ℤ l.raise.amount *ℤ (whole l.model).coef l.raise.row x;
  rest : (x : ℕ) → l.v ≤ x → number_at l.weights x ≡ number_at l.fn.weights x;
  small : (x : ℕ) → x < l.v → unsigned_abs ((whole l.model).coef l.raise.row x) ≤ 2 ^ 37;
}
