use Rattle.std.proofs.Common.{ℕ, ◌<◌, length, drop}
use Rattle.row_matrix.specs.Terms.{lost_by}
use Rattle.row_matrix.specs.Waiting.{number_at, IsShort, Marked}
use Rattle.row_matrix.proofs.Moving.{Falls}
use Rattle.row_matrix.proofs.slacks.Slacks.lower_all.Given as goal

abbrev pub invariant-loop-row : goal.invariant-loop-row
invariant-loop-row l = record {
  short : IsShort l.self (length l.tops);
  falls : (r : ℕ) → r < length l.tops → Falls (lost_by l.by l.rows r) (lost_by l.by (drop l.row-index l.rows) r) (number_at l.fn.self.slack.items r) (number_at l.self.slack.items r);
  waits : Marked l.tops l.fn.self l.self;
}
