use Rattle.std.proofs.Common.{arith}
use Rattle.row_matrix.proofs.Counts.{all_wait}
use Rattle.row_matrix.proofs.slacks.Slacks.rouse.Goals as goal

pub returns-clause-count : goal.returns-clause-count
returns-clause-count c = omega (arith, c.len-self.ensures, c.set_all.new.waits.ok.0, all_wait c.set_all.new.waits.items c.set_all.ensures.all)
