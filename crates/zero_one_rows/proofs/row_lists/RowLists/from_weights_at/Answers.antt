use Rattle.std.proofs.Common.{◌*◌, arith}
use Rattle.zero_one_rows.specs.Counted.{weight_rows, apart_rows}
use Rattle.zero_one_rows.proofs.Numbered.{in_rest, rest_inside}
use Rattle.zero_one_rows.proofs.Parts.{weights_long, aparts_long}
use Rattle.zero_one_rows.proofs.row_lists.RowLists.from_weights_at.Goals as goal

pub apart_at-requires : goal.apart_at-requires
apart_at-requires c = let a = aparts_long c.args.self.now in let b = rest_inside (weight_rows c.args.self.now) (apart_rows c.args.self.now) (c.args.self.now.calls * c.args.self.now.stacks) c.args.k (weights_long c.args.self.now) c.if-k-weights.false c.requires.inside in omega (arith, a, b)

pub returns : goal.returns
returns c = in_rest (weight_rows c.args.self.now) (apart_rows c.args.self.now) (c.args.self.now.calls * c.args.self.now.stacks) c.args.k c.apart_at.result (weights_long c.args.self.now) c.if-k-weights.false c.apart_at.ensures
