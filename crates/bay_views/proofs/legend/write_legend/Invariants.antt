use Rattle.std.proofs.Common.{◌≡◌, ◌++◌}
use Rattle.bay_views.specs.Upto.{upto}
use Rattle.bay_views.specs.Drawings.{entry_of}
use Rattle.bay_views.proofs.legend.write_legend.Given as goal

abbrev pub invariant-loop-i : goal.invariant-loop-i
invariant-loop-i l = l.out ≡ l.fn.out ++ upto (entry_of l.set l.ports l.marks l.groups) l.i
