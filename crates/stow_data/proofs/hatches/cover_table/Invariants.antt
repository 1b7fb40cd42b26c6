use Rattle.std.proofs.Common.{◌≡◌, take, length}
use Rattle.stow_data.specs.CoverTable.{IsCoverTable}
use Rattle.stow_data.proofs.hatches.cover_table.Given as goal

abbrev pub invariant-loop-cover : goal.invariant-loop-cover
invariant-loop-cover l = record { each : length l.table ≡ l.fn.stacks; counted : l.number ≡ l.cover-index; leads : IsCoverTable (take l.cover-index l.covers) l.naming l.table }
