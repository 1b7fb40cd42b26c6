use Rattle.std.proofs.Common.{◌≡◌, ◌≤◌, ◌*◌, take}
use Rattle.bay_views.specs.Heads.{kilograms_of}
use Rattle.bay_views.proofs.heading.kilograms_of.Given as goal

abbrev pub invariant-loop-group : goal.invariant-loop-group
invariant-loop-group l = (l.sum ≡ kilograms_of l.long (take l.group-index l.groups)) × (l.sum ≤ 4294967295 * l.group-index)
