-- What a built matrix gives.
use Rattle.std.proofs.Common.{◌≡◌, ℕ, zero, suc, ◌<◌, Bool, true, false, List, [], ◌∷◌, cond, length, get_or, refl, ◌∙◌, ap, arith}
use Rattle.std.specs.Prelude.{slice_index_or}
use Rattle.std.proofs.lemmas.Bool.{and_parts}
use Rattle.row_sums.specs.Transposed.{IsTransposed}
use Rattle.stow_data.specs.Shipment.{IsCargo}
use Rattle.zero_one_rows.specs.Variables.{Voyage, variables}
use Rattle.zero_one_rows.specs.Ranges.{HasSmallCoefficients}
use Rattle.zero_one_rows.specs.Rows.{whole, is_base, has}
use Rattle.zero_one_rows.specs.Counted.{base_rows}
use Rattle.zero_one_rows.specs.Ordered.{ListsBaseRows}
use Rattle.row_sums.specs.declared.numbering.Numbering.{Numbering}
use Rattle.row_sums.specs.Numbers.{numbers}
use Rattle.row_sums.specs.Held.{stands}
use Rattle.row_matrix.specs.declared.entries.Share.{Share}
use Rattle.row_matrix.specs.Terms.{count, row_at, loss, lost, lost_by, AreTerms}
use Rattle.row_matrix.specs.declared.entries.Entry.{Entry}
use Rattle.row_matrix.specs.declared.signed.SignedRows.{SignedRows}
use Rattle.row_matrix.specs.Counted.{counted, row_terms_of, weight_of, AreEntries, AreShares}
use Rattle.row_matrix.specs.Signed.{AreSigned}
use Rattle.row_matrix.specs.Parted.{AreRowSums}
use Rattle.row_matrix.proofs.Losing.{Laws, lost_there, row_loses}
use Rattle.row_matrix.proofs.RowTerms.{row_terms}

at_itself : {X : Type 0} (xs : List X) (i : ℕ) (d : X) → i < length xs → get_or xs i (get_or xs i d) ≡ get_or xs i d
at_itself [] i d lt = absurd (omega arith)
at_itself (x ∷ xs) zero d lt = refl
at_itself (x ∷ xs) (suc i) d lt = at_itself xs i d (omega arith)

-- a base row by its number is one of the program
pub row_there : (m : Voyage) (k : ℕ) → ListsBaseRows → k < count m → (is_base (row_at m k) ≡ true) × (has m (row_at m k) ≡ true)
row_there m k lists lt = and_parts (is_base (row_at m k)) (has m (row_at m k)) ((lists m (row_at m k)).0 (k, lt, at_itself (base_rows m) k _ lt))

-- the rows of sums, from the sums of rows
one_sign : (m : Voyage) (z : Numbering) (laws : Laws m z) (y : Bool) (lists rows : List (List ℕ)) (ss : List Share) (v k : ℕ) → ListsBaseRows → AreRowSums m z y lists (count m) → IsTransposed lists (numbers z) rows → AreShares m z v ss → v < length (variables m) → k < count m
    → lost ss rows k ≡ loss y ((whole m).coef (row_at m k) v)
one_sign m z laws y lists rows ss v k listed are turned shares v_lt k_lt =
    let r = row_there m k listed k_lt in
    row_loses m z laws (row_at m k) r.1 r.0 y (slice_index_or lists k []) (are.of k k_lt) v v_lt ss shares rows k
    (λ n low.
    ap (λ (ks : List ℕ). lost_by (counted z n (weight_of m v)) ks k) (turned.of n low) ∙ lost_there (λ i. stands n (slice_index_or lists i [])) _ 0 (length lists) k (omega arith) (let e = are.each in omega (arith, e, k_lt)))

pub row_losses : (m : Voyage) (z : Numbering) (shares : List (List Share)) (rows : SignedRows) → ((v : ℕ) → v < length (variables m) → AreShares m z v (slice_index_or shares v [])) → AreSigned m z rows → Laws m z → ListsBaseRows → (y : Bool) (v k : ℕ) → v < length (variables m) → k < count m
    → lost (slice_index_or shares v []) (cond y rows.minus_rows rows.plus_rows) k ≡ loss y ((whole m).coef (row_at m k) v)
row_losses m z shares rows are signed laws listed true v k v_lt k_lt = one_sign m z laws true rows.minus rows.minus_rows (slice_index_or shares v []) v k listed signed.minus signed.minus_rows (are v v_lt) v_lt k_lt
row_losses m z shares rows are signed laws listed false v k v_lt k_lt = one_sign m z laws false rows.plus rows.plus_rows (slice_index_or shares v []) v k listed signed.plus signed.plus_rows (are v v_lt) v_lt k_lt

-- the terms of a row are those of its sums
pub row_lists : (m : Voyage) (z : Numbering) (entries : List (List Entry)) (rows : SignedRows) → AreEntries m z entries → AreSigned m z rows → Laws m z → IsCargo m.cargo → HasSmallCoefficients → ListsBaseRows → (k : ℕ) → k < count m → AreTerms m (row_at m k) (row_terms_of entries rows k)
row_lists m z entries rows are signed laws cargo small listed k k_lt =
    let r = row_there m k listed k_lt in
    row_terms m z laws (row_at m k) r.1 r.0 entries are (λ x. small m (row_at m k) x laws.rules cargo r.1) (slice_index_or rows.plus k []) (slice_index_or rows.minus k []) (signed.plus.of k k_lt) (signed.minus.of k k_lt)
