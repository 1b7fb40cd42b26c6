use Rattle.std.proofs.Common.{◌≡◌, ◌≤◌, take}
use Rattle.std.specs.Prelude.{count_by}
use Rattle.bay_views.specs.Changes.{is_moved}
use Rattle.bay_views.proofs.changes.moved_in.Given as goal

abbrev pub invariant-loop-group : goal.invariant-loop-group
invariant-loop-group l = (l.count ≡ count_by (is_moved l.others) (take l.group-index l.groups)) × (l.count ≤ l.group-index)
