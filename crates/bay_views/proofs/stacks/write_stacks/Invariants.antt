use Rattle.std.proofs.Common.{◌≡◌, ◌++◌}
use Rattle.bay_views.specs.Upto.{upto}
use Rattle.bay_views.specs.Stacks.{bay_stacks}
use Rattle.bay_views.proofs.stacks.write_stacks.Given as goal

abbrev pub invariant-loop-i : goal.invariant-loop-i
invariant-loop-i l = l.out ≡ l.fn.out ++ upto (bay_stacks l.sheet l.groups) l.i
