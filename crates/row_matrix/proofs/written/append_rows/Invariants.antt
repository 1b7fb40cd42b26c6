use Rattle.std.proofs.Common.{◌≡◌, ℕ, drop, ◌+ℤ◌}
use Rattle.row_matrix.specs.Terms.{loses, lost_by}
use Rattle.row_matrix.proofs.written.append_rows.Given as goal

abbrev pub invariant-loop-row : goal.invariant-loop-row
invariant-loop-row l = (k : ℕ) → loses l.losses.items k +ℤ lost_by l.by (drop l.row-index l.rows) k ≡ loses l.fn.losses.items k +ℤ lost_by l.by l.rows k
