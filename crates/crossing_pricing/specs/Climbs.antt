-- Pairs of calls that climb, and the most that they bring together.
use Rattle.std.specs.Prelude.{◌≡◌, ℕ, suc, ◌+◌, ◌-◌, ◌*◌, ◌<◌, ◌≤◌, ◌^◌, List, [], ◌∷◌, length, slice_index_or, ℤ, pos, ◌+ℤ◌, ◌≤ℤ◌, unsigned_abs}
use Rattle.crossing_pricing.specs.declared.best_pairs.Best.{Best}
use Rattle.crossing_pricing.specs.Gaps.{number_at}

-- the sum over pairs of calls
abbrev pub over_pairs : (ℕ → ℕ → ℤ) → List (ℕ × ℕ) → ℤ
over_pairs w [] = pos 0
over_pairs w (q ∷ qs) = w q.0 q.1 +ℤ over_pairs w qs

-- pairs of a call from `load` on, below `floor`, and a call from `dest` on, to `last`; both calls rise from pair to pair
abbrev pub Climb : ℕ → ℕ → ℕ → ℕ → List (ℕ × ℕ) → Type 0
Climb last floor load dest [] = Unit {0}
Climb last floor load dest (q ∷ qs) = (load ≤ q.0) × (q.0 < floor) × (dest ≤ q.1) × (q.1 ≤ last) × Climb last floor (suc q.0) (suc q.1) qs

-- what a pair of calls brings: a part of its own, and what its variables gain
abbrev pub worth_at : List ℤ → List ℤ → ℕ → ℕ → ℕ → ℤ
worth_at sides gaps from i d = number_at sides (13 * i + d) +ℤ number_at gaps (from + (13 * i + d))

-- for each pair of the calls 0 to 12
pub record AreWorths (sides gaps : List ℤ) (from : ℕ) : Type 0 where
  pub sides_len : length sides ≡ 169
  pub gaps_len : from + 169 ≤ length gaps
  pub sides_low : (k : ℕ) → k < length sides → unsigned_abs (number_at sides k) ≤ 2 ^ 37
  pub gaps_low : (k : ℕ) → k < length gaps → unsigned_abs (number_at gaps k) ≤ 2 ^ 18

-- no climbing pairs from these calls on bring more together: one pair or more, two or more
pub record IsBest (w : ℕ → ℕ → ℤ) (last floor load dest : ℕ) (best : Best) : Type 0 where
  pub one : (qs : List (ℕ × ℕ)) → Climb last floor load dest qs → 1 ≤ length qs → over_pairs w qs ≤ℤ best.one
  pub two : (qs : List (ℕ × ℕ)) → Climb last floor load dest qs → 2 ≤ length qs → over_pairs w qs ≤ℤ best.two

abbrev pub nothing : Best
nothing = record { one = pos 0; two = pos 0 }

abbrev pub best_at : List Best → ℕ → Best
best_at row d = slice_index_or row d nothing

-- the bests from a call on, for each destination from the floor on
abbrev pub AreBest : (ℕ → ℕ → ℤ) → ℕ → ℕ → ℕ → ℕ → List Best → Type 0
AreBest w last floor load dest row = (d : ℕ) → dest ≤ d → d ≤ 13 → IsBest w last floor load d (best_at row d)

-- how large they are
pub record IsSmall (size : ℕ) (best : Best) : Type 0 where
  pub one : unsigned_abs best.one ≤ size
  pub two : unsigned_abs best.two ≤ size

abbrev pub AreSmall : ℕ → List Best → Type 0
AreSmall size row = (d : ℕ) → d ≤ 13 → IsSmall size (best_at row d)

-- how large the bests from a call on may be
abbrev pub room : ℕ → ℕ
room load = 2 ^ 45 + (13 - load) * 2 ^ 38
