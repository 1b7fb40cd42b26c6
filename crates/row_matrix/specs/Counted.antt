-- What variables count in the sums that hold them, by the numbers of the sums.
use Rattle.std.specs.Prelude.{◌≡◌, ℕ, ◌/◌, ◌==◌, Bool, true, false, ◌++◌, cond, List, [], map, flat_map, slice_index_or, ℤ, pos, ◌-ℤ◌}
use Rattle.zero_one_rows.specs.declared.program.Var.{Var}
use Rattle.zero_one_rows.specs.Variables.{Voyage, variables, var, kind}
use Rattle.row_sums.specs.declared.sums.Sum.{Sum}
use Rattle.row_sums.specs.declared.numbering.Numbering.{Numbering}
use Rattle.row_sums.specs.Numbers.{number, IsThere}
use Rattle.row_sums.specs.Held.{variables_of, AreSumsOf, IsRising}
use Rattle.row_matrix.specs.declared.entries.Entry.{Entry}
use Rattle.row_matrix.specs.declared.entries.Share.{Share}
use Rattle.row_matrix.specs.declared.entries.Term.{Term}
use Rattle.row_matrix.specs.declared.signed.SignedRows.{SignedRows}

-- the number is of the eighth family, that of weights
abbrev pub weighs : Numbering → ℕ → Bool
weighs z n = n / z.width / z.calls == 8

-- what a variable of this weight counts in the sum with this number
abbrev pub counted : Numbering → ℕ → ℕ → ℕ
counted z n weight = cond (weighs z n) weight 1

-- the rounded weight of a variable's kind
abbrev pub weight_of : Voyage → ℕ → ℕ
weight_of m v = (kind m (var m v).kind).kg

abbrev pub share_of : Numbering → ℕ → ℕ → Share
share_of z weight n = record { sum = n; by = counted z n weight }

abbrev pub all_weights : Voyage → List ℕ
all_weights m = map (λ (x : Var). (kind m x.kind).kg) (variables m)

abbrev pub entry_by : Numbering → ℕ → List ℕ → ℕ → Entry
entry_by z n ws v = record { at = v; by = counted z n (slice_index_or ws v 0) }

abbrev pub entry_of : Voyage → Numbering → ℕ → ℕ → Entry
entry_of m z n v = record { at = v; by = counted z n (weight_of m v) }

-- an entry of a sum in a row: with plus, or with minus
abbrev pub signed_by : Bool → ℕ → ℤ
signed_by minus by = cond minus (pos 0 -ℤ pos by) (pos by)

abbrev pub term_of : Bool → Entry → Term
term_of minus e = record { at = e.at; by = signed_by minus e.by }

-- the terms of sums with one sign
abbrev pub terms_of : Bool → List (List Entry) → List ℕ → List Term
terms_of minus entries ns = flat_map (λ n. map (term_of minus) (slice_index_or entries n [])) ns

-- those of the row with this number
abbrev pub row_terms_of : List (List Entry) → SignedRows → ℕ → List Term
row_terms_of entries rows k = terms_of false entries (slice_index_or rows.plus k []) ++ terms_of true entries (slice_index_or rows.minus k [])

-- the entries of each sum that there is
abbrev pub AreEntries : Voyage → Numbering → List (List Entry) → Type 0
AreEntries m z entries = (s : Sum) → IsThere m s → slice_index_or entries (number z s) [] ≡ map (entry_of m z (number z s)) (variables_of m s)

-- the sums that hold a variable, each once
pub record AreShares (m : Voyage) (z : Numbering) (v : ℕ) (ss : List Share) : Type 0 where
  pub sums : List ℕ
  pub hold : AreSumsOf m z (var m v) sums
  pub rising : IsRising sums
  pub are : ss ≡ map (share_of z (weight_of m v)) sums
