-- Counts of empty finds that rise.
use Rattle.std.specs.Prelude.{◌≡◌, ℕ, ◌+◌, ◌<◌, ◌≤◌, ◌≢◌, min, List, length, slice_index_or}
use Rattle.shared_search.specs.declared.racks.Pass.{Pass}
use Rattle.shared_search.specs.Racks.{misses_of}

module _ {M : Type 0} where
  -- the deque of this number was found with nothing once more at least; a count stands still at its type's end
  abbrev pub Rose : ℕ → Pass M → Pass M → Type 0
  Rose k s t = min (slice_index_or (misses_of s) k 0 + 1) 18446744073709551615 ≤ slice_index_or (misses_of t) k 0

  abbrev pub AllRose : Pass M → Pass M → Type 0
  AllRose s t = (k : ℕ) → k < length (misses_of s) → Rose k s t

  -- each deque but the pass's own
  abbrev pub OthersRose : Pass M → Pass M → Type 0
  OthersRose s t = (k : ℕ) → k < length (misses_of s) → k ≢ s.number → Rose k s t

  -- no count fell
  abbrev pub NoneFell : Pass M → Pass M → Type 0
  NoneFell s t = (k : ℕ) → min (slice_index_or (misses_of s) k 0) 18446744073709551615 ≤ slice_index_or (misses_of t) k 0
