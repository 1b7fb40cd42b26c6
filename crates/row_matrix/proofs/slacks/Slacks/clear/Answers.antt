use Rattle.std.proofs.Common.{arith}
use Rattle.row_matrix.proofs.Counts.{waiting_set}
use Rattle.row_matrix.proofs.slacks.Slacks.clear.Goals as goal

pub overflow_sub-self : goal.overflow_sub-self
overflow_sub-self c = omega (arith, c.requires.count, waiting_set c.args.self.now.waits.items c.args.row c.requires.waits)

pub returns-clause-count : goal.returns-clause-count
returns-clause-count c = omega (arith, c.requires.count, waiting_set c.args.self.now.waits.items c.args.row c.requires.waits)
