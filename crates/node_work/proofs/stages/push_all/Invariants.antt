use Rattle.std.proofs.Common.{◌≡◌, ◌++◌, take}
use Rattle.node_work.proofs.stages.push_all.Given as goal

abbrev pub invariant-loop-raise : goal.invariant-loop-raise
invariant-loop-raise l = l.made ≡ l.fn.made ++ take l.raise-index l.more
