use Rattle.std.proofs.Common.{◌≡◌, ◌<◌, ◌==◌, ℕ, [], length}
use Rattle.std.specs.Prelude.{filter, slice_index_or}
use Rattle.std.specs.List.{range_with_len}
use Rattle.zero_one_rows.proofs.groups.group.Given as goal

abbrev pub invariant-loop-index : goal.invariant-loop-index
invariant-loop-index l = record { each : length l.lists.items ≡ l.count; of : (k : ℕ) → k < l.count → slice_index_or l.lists.items k [] ≡ filter (λ v. slice_index_or l.keys v 0 == k) (range_with_len 0 l.index) }
