use Rattle.std.proofs.Common.{◌≡◌, length}
use Rattle.row_matrix.specs.Waiting.{waiting_in}
use Rattle.row_matrix.proofs.slacks.Slacks.rest.Given as goal

abbrev pub invariant-loop-row : goal.invariant-loop-row
invariant-loop-row l = record {
  slack : l.self.slack ≡ l.fn.self.slack;
  len : length l.self.waits.items ≡ length l.fn.self.waits.items;
  count : l.self.waiting ≡ waiting_in l.self.waits.items;
}

abbrev pub decreases-loop-row : goal.decreases-loop-row
decreases-loop-row l = waiting_in l.self.waits.items
