-- The slack of each base row in the free box, and a number that no coefficient passes.
use Rattle.std.specs.Prelude.{◌≡◌, ℕ, ◌<◌, ◌≤◌, length, slice_index_or, pos, ◌-ℤ◌}
use Rattle.std.specs.Int.RustNames.{unsigned_abs}
use Rattle.proof_trees.specs.Boxes.{free_box, most}
use Rattle.zero_one_rows.specs.declared.program.Row.{Row}
use Rattle.zero_one_rows.specs.declared.program.Row.TheVariants.{Flow, Start, Cell, Support, Twenty, Block, Hatch, Weight, Apart, Cross}
use Rattle.zero_one_rows.specs.Variables.{Voyage, variables}
use Rattle.zero_one_rows.specs.Rows.{whole}
use Rattle.row_matrix.specs.declared.margins.Margin.{Margin}
use Rattle.row_matrix.specs.declared.margins.Margins.{Margins}
use Rattle.row_matrix.specs.Terms.{row_at, IsSmall}

-- 1, or for rows of weights this weight
abbrev pub top_by : Row → ℕ → ℕ
top_by (Flow q i g) heaviest = 1
top_by (Start q p) heaviest = 1
top_by (Cell i h) heaviest = 1
top_by (Support i h) heaviest = 1
top_by (Twenty i h) heaviest = 1
top_by (Block j h) heaviest = 1
top_by (Hatch w j h d) heaviest = 1
top_by (Weight i k) heaviest = heaviest
top_by (Apart i e p q) heaviest = 1
top_by (Cross l p c) heaviest = 1

pub record IsMargin (m : Voyage) (r : Row) (p : Margin) : Type 0 where
  pub slack : p.slack ≡ most (whole m) (free_box (whole m)) r -ℤ (whole m).rhs r
  pub top : (v : ℕ) → v < length (variables m) → unsigned_abs ((whole m).coef r v) ≤ p.top
  pub small : IsSmall m r

abbrev pub margin : Margins → ℕ → Margin
margin a k = record { slack = slice_index_or a.slacks k (pos 0); top = slice_index_or a.tops k 0 }

-- of the first n base rows
pub record AreMargins (m : Voyage) (a : Margins) (n : ℕ) : Type 0 where
  pub slacks : length a.slacks ≡ n
  pub tops : length a.tops ≡ n
  pub each : (k : ℕ) → k < n → IsMargin m (row_at m k) (margin a k)
