use Rattle.std.proofs.Common.{◌≡◌, ◌++◌}
use Rattle.bay_views.specs.Upto.{upto}
use Rattle.bay_views.specs.Pages.{printed}
use Rattle.bay_views.proofs.page.write_prints.Given as goal

abbrev pub invariant-loop-i : goal.invariant-loop-i
invariant-loop-i l = l.out ≡ l.fn.out ++ upto (printed l.name) l.i
