use Rattle.std.proofs.Common.{◌≡◌, ℕ, ◌<◌, [], length}
use Rattle.std.specs.Prelude.{slice_index_or}
use Rattle.row_matrix.specs.Counted.{AreShares}
use Rattle.row_matrix.proofs.counting.push_all_shares.Given as goal

abbrev pub invariant-loop-weight : goal.invariant-loop-weight
invariant-loop-weight l = record {
  each : length l.lists ≡ l.weight-index;
  of : (v : ℕ) → v < l.weight-index → AreShares l.matrix.voyage l.z v (slice_index_or l.lists v []);
}
