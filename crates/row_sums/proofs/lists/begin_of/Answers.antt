use Rattle.std.proofs.Common.{arith}
use Rattle.row_sums.proofs.Cuts.{begins_there}
use Rattle.row_sums.proofs.lists.begin_of.Goals as goal

pub returns : goal.returns
returns c = begins_there c.args.ends.now c.args.index (omega arith) c.requires
