use Rattle.std.proofs.Common.{ℕ, ◌≤◌, ◌^◌, List, [], false, true, All, sym, subst}
use Rattle.std.specs.Prelude.{slice_index_or}
use Rattle.std.specs.Int.RustNames.{unsigned_abs}
use Rattle.row_matrix.specs.Counted.{terms_of}
use Rattle.row_matrix.proofs.Splitting.{all_left, all_right}
use Rattle.row_matrix.proofs.reading.list_terms.Goals as goal

pub append_sums-requires : goal.append_sums-requires
append_sums-requires c =
    subst (λ (ns : List ℕ). All (λ t. unsigned_abs t.by ≤ 2 ^ 17) (terms_of false c.args.entries.now ns)) (sym c.at.ensures)
    (all_left (λ t. unsigned_abs t.by ≤ 2 ^ 17) (terms_of false c.args.entries.now (slice_index_or c.args.rows.now.plus c.args.k [])) (terms_of true c.args.entries.now (slice_index_or c.args.rows.now.minus c.args.k [])) c.requires)

pub append_sums-requires-2 : goal.append_sums-requires-2
append_sums-requires-2 c =
    subst (λ (ns : List ℕ). All (λ t. unsigned_abs t.by ≤ 2 ^ 17) (terms_of true c.args.entries.now ns)) (sym c.at-2.ensures)
    (all_right (λ t. unsigned_abs t.by ≤ 2 ^ 17) (terms_of false c.args.entries.now (slice_index_or c.args.rows.now.plus c.args.k [])) (terms_of true c.args.entries.now (slice_index_or c.args.rows.now.minus c.args.k [])) c.requires)
