use Rattle.std.proofs.Common.{◌≡◌, ◌≤◌, take}
use Rattle.std.specs.Prelude.{count_by}
use Rattle.bay_views.specs.Ports.{is_for}
use Rattle.bay_views.proofs.legend.containers_for.Given as goal

abbrev pub invariant-loop-group : goal.invariant-loop-group
invariant-loop-group l = (l.count ≡ count_by (is_for l.name) (take l.group-index l.groups)) × (l.count ≤ l.group-index)
