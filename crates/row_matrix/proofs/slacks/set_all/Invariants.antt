use Rattle.std.proofs.Common.{◌≡◌, ℕ, ◌<◌, length}
use Rattle.row_matrix.specs.Waiting.{waits_at}
use Rattle.row_matrix.proofs.slacks.set_all.Given as goal

abbrev pub invariant-loop-row : goal.invariant-loop-row
invariant-loop-row l = record {
  len : length l.waits.items ≡ length l.fn.waits.items;
  all : (r : ℕ) → r < l.row → waits_at l.waits.items r ≡ l.value;
}
