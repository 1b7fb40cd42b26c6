use Rattle.std.proofs.Common.{◌≤◌, ◌^◌, List, [], All, sym, subst}
use Rattle.std.specs.Prelude.{map, slice_index_or}
use Rattle.std.specs.Int.RustNames.{unsigned_abs}
use Rattle.row_matrix.specs.declared.entries.Entry.{Entry}
use Rattle.row_matrix.specs.Counted.{term_of}
use Rattle.row_matrix.proofs.Splitting.{of_each}
use Rattle.row_matrix.proofs.reading.append_sums.Goals as goal

pub append_sum-requires : goal.append_sum-requires
append_sum-requires c =
    subst (λ (es : List Entry). All (λ t. unsigned_abs t.by ≤ 2 ^ 17) (map (term_of c.args.minus) es)) (sym c.at.ensures)
    (of_each (λ n. map (term_of c.args.minus) (slice_index_or c.args.entries.now n [])) (λ t. unsigned_abs t.by ≤ 2 ^ 17) c.args.sums.now c.loop-sum.sum-index _ c.requires c.loop-sum-test.true)
