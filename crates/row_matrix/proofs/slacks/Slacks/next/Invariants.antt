use Rattle.std.proofs.Common.{◌≡◌, length}
use Rattle.row_matrix.proofs.slacks.Slacks.next.Given as goal

abbrev pub invariant-loop-row : goal.invariant-loop-row
invariant-loop-row l = record {
  slack : l.self.slack ≡ l.fn.self.slack;
  waits : l.self.waits ≡ l.fn.self.waits;
  waiting : l.self.waiting ≡ l.fn.self.waiting;
}

abbrev pub decreases-loop-row : goal.decreases-loop-row
decreases-loop-row l = length l.self.hints.items
