-- Slacks that follow a box, and which rows wait meanwhile.
use Rattle.std.specs.Prelude.{◌≡◌, ◌⊎◌, ℕ, ◌<◌, false, length, ℤ, pos, ◌≤ℤ◌}
use Rattle.std.specs.Int.RustNames.{unsigned_abs}
use Rattle.proof_trees.specs.Boxes.{Box}
use Rattle.zero_one_rows.specs.Variables.{Voyage, variables}
use Rattle.zero_one_rows.specs.Rows.{whole}
use Rattle.row_matrix.specs.declared.slacks.Slacks.{Slacks}
use Rattle.row_matrix.specs.Terms.{count, row_at, slack_in}
use Rattle.row_matrix.specs.Waiting.{number_at, waits_at, IsShort}

-- each slack is the row's greatest value over the box less its right side
pub record Holds (m : Voyage) (b : Box) (s : Slacks) : Type 0 where
  pub whole : length b ≡ length (variables m)
  pub short : IsShort s (count m)
  pub slack : (k : ℕ) → k < count m → number_at s.slack.items k ≡ slack_in m b k

-- no coefficient of row k passes the number
abbrev pub IsWide : Voyage → ℤ → ℕ → Type 0
IsWide m s k = (v : ℕ) → v < length (variables m) → pos (unsigned_abs ((whole m).coef (row_at m k) v)) ≤ℤ s

-- a row that doesn't wait now didn't wait before, and its slack is the same, or one that no coefficient passes
abbrev pub ChangedRowsWait : Voyage → Slacks → Slacks → Type 0
ChangedRowsWait m old new =
    (k : ℕ) → k < count m → waits_at new.waits.items k ≡ false
    → (waits_at old.waits.items k ≡ false)
    × ((number_at new.slack.items k ≡ number_at old.slack.items k)
    ⊎ ((pos 0 ≤ℤ number_at new.slack.items k) × IsWide m (number_at new.slack.items k) k))
