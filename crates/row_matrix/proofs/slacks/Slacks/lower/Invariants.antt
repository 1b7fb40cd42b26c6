use Rattle.std.proofs.Common.{ℕ, ◌<◌, length, drop}
use Rattle.row_matrix.specs.Terms.{lost}
use Rattle.row_matrix.specs.Waiting.{number_at, IsShort, Marked}
use Rattle.row_matrix.proofs.Moving.{Falls}
use Rattle.row_matrix.proofs.slacks.Slacks.lower.Given as goal

abbrev pub invariant-loop-share : goal.invariant-loop-share
invariant-loop-share l = record {
  short : IsShort l.self (length l.tops);
  falls : (r : ℕ) → r < length l.tops → Falls (lost l.shares l.rows r) (lost (drop l.share-index l.shares) l.rows r) (number_at l.fn.self.slack.items r) (number_at l.self.slack.items r);
  waits : Marked l.tops l.fn.self l.self;
}
