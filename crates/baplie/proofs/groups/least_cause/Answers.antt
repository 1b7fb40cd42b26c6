use Rattle.std.proofs.Common.{rules}
use Rattle.baplie.proofs.Readings.{least}
use Rattle.baplie.proofs.groups.least_cause.Goals as goal

pub returns : goal.returns
returns c =
    let e = least c.args.known c.args.segment.now c.args.role c.requires in
    rw e (search rules)
