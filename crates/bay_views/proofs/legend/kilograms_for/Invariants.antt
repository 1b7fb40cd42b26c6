use Rattle.std.proofs.Common.{◌≡◌, ◌≤◌, ◌*◌, take}
use Rattle.std.specs.List.{sum_by}
use Rattle.bay_views.specs.Ports.{kg_for}
use Rattle.bay_views.proofs.legend.kilograms_for.Given as goal

abbrev pub invariant-loop-group : goal.invariant-loop-group
invariant-loop-group l = (l.sum ≡ sum_by (kg_for l.name) (take l.group-index l.groups)) × (l.sum ≤ 4294967295 * l.group-index)
