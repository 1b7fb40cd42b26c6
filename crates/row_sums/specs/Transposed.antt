-- Lists of numbers the other way round: for each number the lists that have it.
use Rattle.std.specs.Prelude.{◌≡◌, ℕ, ◌<◌, List, [], length, filter, slice_index_or, nat_eq}
use Rattle.std.specs.List.{list_any, range_with_len}

-- the lists that have this number, rising, each once
abbrev pub lists_with : List (List ℕ) → ℕ → List ℕ
lists_with lists k = filter (λ v. list_any (nat_eq k) (slice_index_or lists v [])) (range_with_len 0 (length lists))

-- for each number below n the lists that have it
pub record IsTransposed (lists : List (List ℕ)) (n : ℕ) (turned : List (List ℕ)) : Type 0 where
  pub each : length turned ≡ n
  pub of : (k : ℕ) → k < n → slice_index_or turned k [] ≡ lists_with lists k
