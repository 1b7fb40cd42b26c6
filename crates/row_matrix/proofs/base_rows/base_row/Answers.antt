use Rattle.row_matrix.proofs.BaseFirst.{base_has, base_place, base_within}
use Rattle.row_matrix.proofs.base_rows.base_row.Goals as goal

pub row_at-requires : goal.row_at-requires
row_at-requires c = base_within c.args.model.now c.args.k c.requires

pub returns-clause-place : goal.returns-clause-place
returns-clause-place c = base_place c.args.model.now c.args.k c.row_at.result c.requires c.row_at.ensures.place

pub returns-clause-base : goal.returns-clause-base
returns-clause-base c = base_has c.args.model.now c.args.k c.row_at.result c.rows_are_listed.ensures.base c.requires (base_place c.args.model.now c.args.k c.row_at.result c.requires c.row_at.ensures.place)
