use Rattle.std.proofs.Common.{◌<◌, arith, sym, length}
use Rattle.std.proofs.lemmas.Option.{get_or_from_slice_get}
use Rattle.zero_one_rows.specs.Counted.{base_rows, row_lists}
use Rattle.zero_one_model.specs.Runs.{no_row}
use Rattle.zero_one_model.proofs.Filed.{base_first, base_few}
use Rattle.zero_one_model.proofs.model.Model.base_row_at.Goals as goal

pub row_at-requires : goal.row_at-requires
row_at-requires c = let few = base_few (row_lists c.args.self.now) in omega (arith, few, c.requires, c.from.ensures)

pub returns : goal.returns
returns c =
    let inside : c.from.result < length (base_rows c.args.self.now) = omega (arith, c.requires, c.from.ensures) in
    rw (sym c.from.ensures) (sym (get_or_from_slice_get (base_rows c.args.self.now) c.from.result c.row_at.result no_row (base_first (row_lists c.args.self.now) c.from.result c.row_at.result inside c.row_at.ensures.place)))
