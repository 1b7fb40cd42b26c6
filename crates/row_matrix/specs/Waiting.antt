-- Slacks by row, and rows that wait.
use Rattle.std.specs.Prelude.{◌≡◌, ◌⊎◌, ℕ, ◌+◌, Bool, true, false, List, [], ◌∷◌, length, slice_index_or, ℤ, pos, ◌≤ℤ◌}
use Rattle.row_matrix.specs.declared.slacks.Slacks.{Slacks}

abbrev pub number_at : List ℤ → ℕ → ℤ
number_at s r = slice_index_or s r (pos 0)

-- the row waits to be looked at
abbrev pub waits_at : List Bool → ℕ → Bool
waits_at w r = slice_index_or w r false

-- how many rows wait
abbrev pub waiting_in : List Bool → ℕ
waiting_in [] = 0
waiting_in (true ∷ ws) = waiting_in ws + 1
waiting_in (false ∷ ws) = waiting_in ws

-- slacks and marks of n rows, and how many of them wait
pub record IsShort (s : Slacks) (n : ℕ) : Type 0 where
  pub slacks : length s.slack.items ≡ n
  pub marks : length s.waits.items ≡ n
  pub count : s.waiting ≡ waiting_in s.waits.items

-- a row that doesn't wait now didn't wait before, and its slack is the same or no coefficient passes it
abbrev pub Marked : List ℕ → Slacks → Slacks → Type 0
Marked tops old new = (r : ℕ) → waits_at new.waits.items r ≡ false → (waits_at old.waits.items r ≡ false) × ((number_at new.slack.items r ≡ number_at old.slack.items r) ⊎ (pos (slice_index_or tops r 0) ≤ℤ number_at new.slack.items r))
