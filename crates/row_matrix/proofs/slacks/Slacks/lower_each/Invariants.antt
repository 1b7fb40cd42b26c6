use Rattle.std.proofs.Common.{ℕ, ◌<◌, length, drop}
use Rattle.row_matrix.specs.Terms.{loses}
use Rattle.row_matrix.specs.Waiting.{number_at, IsShort, Marked}
use Rattle.row_matrix.proofs.Moving.{Falls}
use Rattle.row_matrix.proofs.slacks.Slacks.lower_each.Given as goal

abbrev pub invariant-loop-loss : goal.invariant-loop-loss
invariant-loop-loss l = record {
  short : IsShort l.self (length l.tops);
  falls : (r : ℕ) → r < length l.tops → Falls (loses l.losses r) (loses (drop l.loss-index l.losses) r) (number_at l.fn.self.slack.items r) (number_at l.self.slack.items r);
  waits : Marked l.tops l.fn.self l.self;
}
