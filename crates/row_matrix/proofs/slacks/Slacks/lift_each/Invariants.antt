use Rattle.std.proofs.Common.{◌≡◌, ℕ, ◌<◌, length, drop}
use Rattle.row_matrix.specs.Terms.{loses}
use Rattle.row_matrix.specs.Waiting.{number_at}
use Rattle.row_matrix.proofs.Moving.{Rises}
use Rattle.row_matrix.proofs.slacks.Slacks.lift_each.Given as goal

abbrev pub invariant-loop-loss : goal.invariant-loop-loss
invariant-loop-loss l = record {
  len : length l.self.slack.items ≡ length l.fn.self.slack.items;
  waits : l.self.waits ≡ l.fn.self.waits;
  waiting : l.self.waiting ≡ l.fn.self.waiting;
  rises : (r : ℕ) → r < length l.fn.self.slack.items → Rises (loses l.losses r) (loses (drop l.loss-index l.losses) r) (number_at l.fn.self.slack.items r) (number_at l.self.slack.items r);
}
