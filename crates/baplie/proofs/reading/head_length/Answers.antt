use Rattle.std.proofs.Common.{arith}
use Rattle.baplie.proofs.Cuts.{length-head}
use Rattle.baplie.proofs.reading.head_length.Goals as goal

pub returns-clause-length : goal.returns-clause-length
returns-clause-length c = omega (arith, c.place_from.ensures.place, length-head c.args.body.now)
