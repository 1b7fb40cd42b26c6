use Rattle.std.proofs.Common.{◌≡◌}
use Rattle.plan_files.proofs.Composing.{groups_below}
use Rattle.plan_files.proofs.cell_groups.cell_groups.Given as goal

abbrev pub invariant-loop-number : goal.invariant-loop-number
invariant-loop-number l = l.list ≡ groups_below l.ship l.cargo l.bookings l.arrived l.plan l.number
