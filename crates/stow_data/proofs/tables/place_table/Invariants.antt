use Rattle.std.proofs.Common.{◌≡◌, take}
use Rattle.std.specs.Prelude.{flat_map}
use Rattle.std.specs.List.{enumerate_from}
use Rattle.stow_data.specs.Ship.{stack_places}
use Rattle.stow_data.proofs.tables.place_table.Given as goal

abbrev pub invariant-loop-stack : goal.invariant-loop-stack
invariant-loop-stack l = record { made : l.table ≡ flat_map stack_places (enumerate_from 0 (take l.stack-index l.stacks)); counted : l.number ≡ l.stack-index }
