use Rattle.std.proofs.Common.{◌≡◌, ℕ, ◌<◌, length, drop}
use Rattle.row_matrix.specs.Terms.{lost}
use Rattle.row_matrix.specs.Waiting.{number_at}
use Rattle.row_matrix.proofs.Moving.{Rises}
use Rattle.row_matrix.proofs.slacks.Slacks.lift.Given as goal

abbrev pub invariant-loop-share : goal.invariant-loop-share
invariant-loop-share l = record {
  len : length l.self.slack.items ≡ length l.fn.self.slack.items;
  waits : l.self.waits ≡ l.fn.self.waits;
  waiting : l.self.waiting ≡ l.fn.self.waiting;
  rises : (r : ℕ) → r < length l.fn.self.slack.items → Rises (lost l.shares l.rows r) (lost (drop l.share-index l.shares) l.rows r) (number_at l.fn.self.slack.items r) (number_at l.self.slack.items r);
}
