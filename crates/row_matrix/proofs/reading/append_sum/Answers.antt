use Rattle.std.proofs.Common.{◌≤◌, ◌^◌}
use Rattle.std.specs.Int.RustNames.{unsigned_abs}
use Rattle.row_matrix.specs.Counted.{term_of}
use Rattle.row_matrix.proofs.Splitting.{of_mapped}
use Rattle.row_matrix.proofs.reading.append_sum.Goals as goal

pub term-requires : goal.term-requires
term-requires c = of_mapped (term_of c.args.minus) (λ t. unsigned_abs t.by ≤ 2 ^ 17) c.args.entries.now c.loop-entry.entry-index c.entry-item.result c.requires c.loop-entry-test.true c.entry-item.is
