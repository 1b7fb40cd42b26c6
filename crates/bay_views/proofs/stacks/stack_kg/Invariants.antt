use Rattle.std.proofs.Common.{◌≡◌, ◌≤◌, ◌*◌, take}
use Rattle.bay_views.specs.Stacks.{stack_kg}
use Rattle.bay_views.proofs.stacks.stack_kg.Given as goal

abbrev pub invariant-loop-group : goal.invariant-loop-group
invariant-loop-group l = (l.sum ≡ stack_kg l.long_bays l.stack (take l.group-index l.groups)) × (l.sum ≤ 4294967295 * l.group-index)
