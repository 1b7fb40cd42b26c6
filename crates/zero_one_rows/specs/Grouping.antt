-- Numbers grouped by a key.
use Rattle.std.specs.Prelude.{◌≡◌, ℕ, ◌<◌, ◌==◌, List, [], length, filter, slice_index_or}
use Rattle.std.specs.List.{range_with_len}

-- the indexes at which this key stands
abbrev pub with_key : List ℕ → ℕ → List ℕ
with_key keys k = filter (λ v. slice_index_or keys v 0 == k) (range_with_len 0 (length keys))

-- for each of n keys, its indexes
pub record IsGrouped (keys : List ℕ) (n : ℕ) (groups : List (List ℕ)) : Type 0 where
  pub each : length groups ≡ n
  pub of : (k : ℕ) → k < n → slice_index_or groups k [] ≡ with_key keys k
