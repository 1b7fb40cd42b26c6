use Rattle.std.proofs.Common.{◌*◌}
use Rattle.zero_one_rows.specs.Counted.{cell_rows, from_supports}
use Rattle.zero_one_rows.proofs.Numbered.{in_rest, rest_inside}
use Rattle.zero_one_rows.proofs.Parts.{cells_long}
use Rattle.zero_one_rows.proofs.row_lists.RowLists.from_cells_at.Goals as goal

pub from_supports_at-requires-clause-inside : goal.from_supports_at-requires-clause-inside
from_supports_at-requires-clause-inside c = rest_inside (cell_rows c.args.self.now) (from_supports c.args.self.now) (c.args.self.now.calls * c.args.self.now.halves) c.args.k (cells_long c.args.self.now) c.if-k-cells.false c.requires.inside

pub returns : goal.returns
returns c = in_rest (cell_rows c.args.self.now) (from_supports c.args.self.now) (c.args.self.now.calls * c.args.self.now.halves) c.args.k c.from_supports_at.result (cells_long c.args.self.now) c.if-k-cells.false c.from_supports_at.ensures
