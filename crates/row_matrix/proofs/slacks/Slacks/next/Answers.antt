use Rattle.std.proofs.Common.{arith}
use Rattle.row_matrix.proofs.Counts.{none_waits}
use Rattle.row_matrix.proofs.slacks.Slacks.next.Goals as goal

pub returns-then-self-eq0-clause-none : goal.returns-then-self-eq0-clause-none
returns-then-self-eq0-clause-none c = λ e r lt. none_waits c.args.self.now.waits.items (omega (arith, c.requires.count, c.loop-row.invariant.waiting, c.if-self-eq0.true)) r
