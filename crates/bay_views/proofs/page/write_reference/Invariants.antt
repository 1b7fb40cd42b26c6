use Rattle.std.proofs.Common.{◌≡◌, ◌++◌, take}
use Rattle.std.specs.Prelude.{flat_map}
use Rattle.bay_views.specs.Pages.{percent}
use Rattle.bay_views.proofs.page.write_reference.Given as goal

abbrev pub invariant-loop-byte : goal.invariant-loop-byte
invariant-loop-byte l = l.out ≡ l.fn.out ++ flat_map percent (take l.byte-index l.byte-items)
