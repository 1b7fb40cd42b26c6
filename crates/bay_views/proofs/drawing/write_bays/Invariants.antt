use Rattle.std.proofs.Common.{◌≡◌, ◌++◌}
use Rattle.bay_views.specs.Upto.{upto}
use Rattle.bay_views.specs.Drawings.{bay_of}
use Rattle.bay_views.proofs.drawing.write_bays.Given as goal

abbrev pub invariant-loop-i : goal.invariant-loop-i
invariant-loop-i l = l.out ≡ l.fn.out ++ upto (bay_of l.sheet) l.i
