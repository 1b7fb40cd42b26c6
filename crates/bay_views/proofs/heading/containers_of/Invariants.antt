use Rattle.std.proofs.Common.{◌≡◌, ◌≤◌, take}
use Rattle.bay_views.specs.Heads.{containers_of}
use Rattle.bay_views.proofs.heading.containers_of.Given as goal

abbrev pub invariant-loop-group : goal.invariant-loop-group
invariant-loop-group l = (l.count ≡ containers_of l.long (take l.group-index l.groups)) × (l.count ≤ l.group-index)
