use Rattle.std.proofs.Common.{◌≡◌, ◌++◌, take}
use Rattle.std.specs.Prelude.{flat_map, option_map}
use Rattle.bay_views.specs.Changes.{change_marks}
use Rattle.bay_views.proofs.changes.write_changes.Given as goal

abbrev pub invariant-loop-group : goal.invariant-loop-group
invariant-loop-group l = l.out ≡ l.fn.out ++ flat_map (λ g. change_marks l.sheet (option_map (λ b. b.now) l.before) (option_map (λ b. b.now) l.after) g) (take l.group-index l.groups)
