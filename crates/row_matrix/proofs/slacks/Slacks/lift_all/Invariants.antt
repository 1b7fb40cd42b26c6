use Rattle.std.proofs.Common.{◌≡◌, ℕ, ◌<◌, length, drop}
use Rattle.row_matrix.specs.Terms.{lost_by}
use Rattle.row_matrix.specs.Waiting.{number_at}
use Rattle.row_matrix.proofs.Moving.{Rises}
use Rattle.row_matrix.proofs.slacks.Slacks.lift_all.Given as goal

abbrev pub invariant-loop-row : goal.invariant-loop-row
invariant-loop-row l = record {
  len : length l.self.slack.items ≡ length l.fn.self.slack.items;
  waits : l.self.waits ≡ l.fn.self.waits;
  waiting : l.self.waiting ≡ l.fn.self.waiting;
  rises : (r : ℕ) → r < length l.fn.self.slack.items → Rises (lost_by l.by l.rows r) (lost_by l.by (drop l.row-index l.rows) r) (number_at l.fn.self.slack.items r) (number_at l.self.slack.items r);
}
