use Rattle.std.proofs.Common.{◌≡◌, ◌++◌}
use Rattle.std.specs.Prelude.{flat_map}
use Rattle.std.specs.List.{range_with_len}
use Rattle.stow_data.specs.Ship.{tier_halves}
use Rattle.stow_data.proofs.tables.push_stack_halves.Given as goal

abbrev pub invariant-loop-tier : goal.invariant-loop-tier
invariant-loop-tier l = l.table ≡ l.initial.table ++ flat_map (tier_halves l.number l.stack) (range_with_len 0 l.tier)
