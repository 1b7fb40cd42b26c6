use Rattle.std.proofs.Common.{◌≡◌, ℕ, ◌<◌, [], ◌∷◌, ◌++◌, cond, length, take}
use Rattle.std.specs.Prelude.{All, nat_eq, slice_index_or}
use Rattle.std.specs.List.{list_any}
use Rattle.row_sums.proofs.transposed.file_all.Given as goal

abbrev pub invariant-loop-key : goal.invariant-loop-key
invariant-loop-key l = record {
  each : length l.lists.items ≡ length l.initial.lists.items;
  of : (k : ℕ) → k < length l.initial.lists.items → All (λ w. w < l.number) (slice_index_or l.initial.lists.items k []) → slice_index_or l.lists.items k [] ≡ slice_index_or l.initial.lists.items k [] ++ cond (list_any (nat_eq k) (take l.key-index l.keys)) (l.number ∷ []) [];
}
