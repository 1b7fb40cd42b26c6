-- Base rows that are written out, and what they lose by each variable.
use Rattle.std.specs.Prelude.{◌≡◌, ℕ, ◌<◌, Bool, true, false, List, [], length, slice_index_or}
use Rattle.zero_one_rows.specs.Variables.{Voyage, variables}
use Rattle.zero_one_rows.specs.Rows.{whole}
use Rattle.row_matrix.specs.declared.entries.Loss.{Loss}
use Rattle.row_matrix.specs.declared.entries.Share.{Share}
use Rattle.row_matrix.specs.declared.entries.Term.{Term}
use Rattle.row_matrix.specs.declared.written.Written.{Written}
use Rattle.row_matrix.specs.Terms.{count, row_at, loss, loses, lost, AreTerms}

-- of the first n base rows
pub record AreRowTerms (m : Voyage) (lists : List (List Term)) (n : ℕ) : Type 0 where
  pub each : length lists ≡ n
  pub of : (k : ℕ) → k < n → AreTerms m (row_at m k) (slice_index_or lists k [])

-- for each of the first n variables the rows that lose by its shares
pub record Flattens (shares : List (List Share)) (rows : List (List ℕ)) (lists : List (List Loss)) (n : ℕ) : Type 0 where
  pub each : length lists ≡ n
  pub of : (v : ℕ) → v < n → (k : ℕ) → loses (slice_index_or lists v []) k ≡ lost (slice_index_or shares v []) rows k

-- these lists say for each variable what the base rows lose where it gets the value
abbrev pub AreLosses : Voyage → Bool → List (List Loss) → Type 0
AreLosses m y lists = (v k : ℕ) → v < length (variables m) → k < count m → loses (slice_index_or lists v []) k ≡ loss y ((whole m).coef (row_at m k) v)

pub record AreWritten (m : Voyage) (w : Written) : Type 0 where
  pub terms : AreRowTerms m w.terms (count m)
  pub at_zero : AreLosses m false w.at_zero
  pub at_one : AreLosses m true w.at_one
