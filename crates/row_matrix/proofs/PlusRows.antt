-- A row that has no sum with plus has no coefficient above 0.
use Rattle.std.proofs.Common.{◌≡◌, ℕ, ◌<◌, false, List, [], length, pos, ◌≤ℤ◌, subst}
use Rattle.std.specs.Prelude.{slice_index_or}
use Rattle.zero_one_rows.specs.Variables.{Voyage, variables}
use Rattle.zero_one_rows.specs.Rows.{whole}
use Rattle.zero_one_rows.specs.Ordered.{ListsBaseRows}
use Rattle.row_sums.specs.declared.numbering.Numbering.{Numbering}
use Rattle.row_matrix.specs.Terms.{count, row_at}
use Rattle.row_matrix.specs.Parted.{AreRowSums, AreSumsOf}
use Rattle.row_matrix.proofs.Losing.{Laws}
use Rattle.row_matrix.proofs.MatrixLaws.{row_there}
use Rattle.row_matrix.proofs.Widths.{none_above}

pub none_plus : (m : Voyage) (z : Numbering) → Laws m z → ListsBaseRows → (plus : List (List ℕ)) → AreRowSums m z false plus (count m) → (k v : ℕ) → k < count m → slice_index_or plus k [] ≡ [] → v < length (variables m) → (whole m).coef (row_at m k) v ≤ℤ pos 0
none_plus m z laws listed plus are k v k_lt empty v_lt =
    let r = row_there m k listed k_lt in
    none_above m z (row_at m k) v laws r.1 r.0 (subst (λ (ns : List ℕ). AreSumsOf m z false (row_at m k) ns) empty (are.of k k_lt)) v_lt
