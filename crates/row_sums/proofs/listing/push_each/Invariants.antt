use Rattle.std.proofs.Common.{◌≡◌, ℕ, ◌<◌, [], length}
use Rattle.std.specs.Prelude.{slice_index_or}
use Rattle.zero_one_rows.specs.Variables.{var}
use Rattle.row_sums.specs.Held.{AreSumsOf}
use Rattle.row_sums.proofs.listing.push_each.Given as goal

abbrev pub invariant-loop-x : goal.invariant-loop-x
invariant-loop-x l = record {
  each : length l.lists ≡ l.x-index;
  of : (v : ℕ) → v < l.x-index → AreSumsOf l.sums l.z (var l.sums v) (slice_index_or l.lists v []);
}
