use Rattle.std.proofs.Common.{◌<◌, ◌≤◌, ℕ}
use Rattle.crane_lists.specs.Least.{window_count}
use Rattle.crane_lists.proofs.windows.fullest_window.Given as goal

abbrev pub invariant-loop-b : goal.invariant-loop-b
invariant-loop-b l = record {
  all : (b : ℕ) → b < l.b → window_count l.ship b l.moves ≤ l.most;
  one : (n : ℕ) → ((b : ℕ) → window_count l.ship b l.moves ≤ n) → l.most ≤ n;
}
