-- Base rows by number, their terms, and what they lose where a variable gets a value.
use Rattle.std.specs.Prelude.{◌≡◌, ◌≢◌, ℕ, ◌<◌, ◌≤◌, ◌^◌, ◌==◌, Bool, false, All, AllPairs, List, [], ◌∷◌, length, map, nat_eq, slice_index_or, ℤ, pos, ◌+ℤ◌, ◌-ℤ◌}
use Rattle.std.specs.List.{list_any}
use Rattle.std.specs.Int.{int_max}
use Rattle.std.specs.Int.RustNames.{unsigned_abs}
use Rattle.proof_trees.specs.Program.{where_set}
use Rattle.proof_trees.specs.Boxes.{Box, most}
use Rattle.zero_one_rows.specs.declared.program.Row.{Row}
use Rattle.zero_one_rows.specs.declared.program.Row.TheVariants.{Cell}
use Rattle.zero_one_rows.specs.Variables.{Voyage, variables}
use Rattle.zero_one_rows.specs.Rows.{whole}
use Rattle.zero_one_rows.specs.Counted.{base_rows}
use Rattle.row_matrix.specs.declared.entries.Term.{Term}
use Rattle.row_matrix.specs.declared.entries.Loss.{Loss}
use Rattle.row_matrix.specs.declared.entries.Share.{Share}

-- what a row's greatest value loses where a free variable with this coefficient gets the value
abbrev pub loss : Bool → ℤ → ℤ
loss y a = int_max (pos 0) a -ℤ where_set y a

-- what row k loses where each of these rows loses so much
abbrev pub lost_by : ℕ → List ℕ → ℕ → ℤ
lost_by by [] k = pos 0
lost_by by (r ∷ rs) k = where_set (r == k) (pos by) +ℤ lost_by by rs k

-- what row k loses by these shares, where for each sum these rows lose with it
abbrev pub lost : List Share → List (List ℕ) → ℕ → ℤ
lost [] rows k = pos 0
lost (s ∷ ss) rows k = lost_by s.by (slice_index_or rows s.sum []) k +ℤ lost ss rows k

-- what these take from row k
abbrev pub loses : List Loss → ℕ → ℤ
loses [] k = pos 0
loses (l ∷ ls) k = where_set (l.row == k) (pos l.by) +ℤ loses ls k

abbrev pub vars_in : List Term → List ℕ
vars_in ts = map (λ (t : Term). t.at) ts

module _ (m : Voyage) where
  -- the number of base rows, and a base row by its number
  abbrev pub count : ℕ
  count = length (base_rows m)

  abbrev pub row_at : ℕ → Row
  row_at k = slice_index_or (base_rows m) k (Cell 0 0)

  -- by how much the greatest value of base row k over the box passes its right side
  abbrev pub slack_in : Box → ℕ → ℤ
  slack_in b k = most (whole m) b (row_at k) -ℤ (whole m).rhs (row_at k)

  -- by how much the row's greatest value passes its right side is a small number in each box
  abbrev pub IsSmall : Row → Type 0
  IsSmall r = (b : Box) → unsigned_abs (most (whole m) b r -ℤ (whole m).rhs r) ≤ 2 ^ 38

  -- variables, each once, with their coefficients in the row, which are small; all others have coefficient 0
  pub record AreTerms (r : Row) (ts : List Term) : Type 0 where
    pub inside : All (λ t. t.at < length (variables m)) ts
    pub once : AllPairs (λ v w. v ≢ w) (vars_in ts)
    pub are : All (λ t. t.by ≡ (whole m).coef r t.at) ts
    pub small : All (λ t. unsigned_abs t.by ≤ 2 ^ 17) ts
    pub others : (v : ℕ) → v < length (variables m) → list_any (nat_eq v) (vars_in ts) ≡ false → (whole m).coef r v ≡ pos 0
