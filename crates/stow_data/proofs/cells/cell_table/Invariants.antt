use Rattle.std.proofs.Common.{◌≡◌, take}
use Rattle.stow_data.specs.CellTable.{IsCellTable}
use Rattle.stow_data.proofs.cells.cell_table.Given as goal

abbrev pub invariant-loop-place : goal.invariant-loop-place
invariant-loop-place l = record { counted : l.number ≡ l.place-index; leads : IsCellTable l.stacks (take l.place-index l.places) l.table }
