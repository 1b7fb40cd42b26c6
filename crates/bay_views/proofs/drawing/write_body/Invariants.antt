use Rattle.std.proofs.Common.{◌≡◌, ◌++◌, take}
use Rattle.std.specs.Prelude.{flat_map}
use Rattle.bay_views.specs.Drawings.{drawn}
use Rattle.bay_views.proofs.drawing.write_body.Given as goal

abbrev pub invariant-loop-group : goal.invariant-loop-group
invariant-loop-group l = l.out ≡ l.fn.out ++ flat_map (λ g. drawn l.set l.sheet l.ports l.marks g) (take l.group-index l.groups)
