-- Numbers grouped by a key, one more.
use Rattle.std.proofs.Common.{◌≡◌, ℕ, ◌+◌, cond, List, [], ◌∷◌, ◌++◌, ◌==◌, sym, ◌∙◌, ap}
use Rattle.std.specs.Prelude.{filter, slice_index_or}
use Rattle.std.specs.List.{range_with_len}
use Rattle.zero_one_rows.proofs.Filters.{filter_more}

pub filed : (keys : List ℕ) (i key k : ℕ) (old new : List (List ℕ)) → key ≡ slice_index_or keys i 0 → slice_index_or old k [] ≡ filter (λ v. slice_index_or keys v 0 == k) (range_with_len 0 i) → slice_index_or new k [] ≡ slice_index_or old k [] ++ cond (key == k) (i ∷ []) [] → slice_index_or new k [] ≡ filter (λ v. slice_index_or keys v 0 == k) (range_with_len 0 (i + 1))
filed keys i key k old new e h n =
    n ∙ ap (λ (xs : List ℕ). xs ++ cond (key == k) (i ∷ []) []) h
    ∙ ap (λ (z : ℕ). filter (λ v. slice_index_or keys v 0 == k) (range_with_len 0 i) ++ cond (z == k) (i ∷ []) []) e
    ∙ sym (filter_more (λ v. slice_index_or keys v 0 == k) i)
