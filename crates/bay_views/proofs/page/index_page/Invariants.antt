use Rattle.std.proofs.Common.{◌≡◌, ◌++◌}
use Rattle.bay_views.specs.Upto.{upto}
use Rattle.bay_views.specs.Pages.{page_front, section_of}
use Rattle.bay_views.proofs.page.index_page.Given as goal

abbrev pub invariant-loop-i : goal.invariant-loop-i
invariant-loop-i l = l.out ≡ page_front ++ upto (section_of l.names l.bays) l.i
