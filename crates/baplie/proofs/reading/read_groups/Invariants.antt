use Rattle.std.proofs.Common.{◌-◌, length}
use Rattle.baplie.proofs.Cuts.{Knows}
use Rattle.baplie.proofs.reading.read_groups.Given as goal

abbrev pub invariant-loop-at : goal.invariant-loop-at
invariant-loop-at l = Knows l.body l.first l.at l.list

abbrev pub decreases-loop-at : goal.decreases-loop-at
decreases-loop-at l = length l.body - l.at
