use Rattle.std.proofs.Common.{◌≡◌, ℕ, ◌<◌, [], length}
use Rattle.std.specs.Prelude.{filter, nat_eq, slice_index_or}
use Rattle.std.specs.List.{list_any, range_with_len}
use Rattle.row_sums.proofs.transposed.FlatLists+usize.transposed.Given as goal

abbrev pub invariant-loop-index : goal.invariant-loop-index
invariant-loop-index l = record {
  each : length l.turned.items ≡ l.count;
  of : (k : ℕ) → k < l.count → slice_index_or l.turned.items k [] ≡ filter (λ v. list_any (nat_eq k) (slice_index_or l.self v [])) (range_with_len 0 l.index);
}
