use Rattle.std.proofs.Common.{◌*◌, arith}
use Rattle.stow_data.proofs.InOrder.{get_left}
use Rattle.zero_one_rows.specs.Counted.{block_rows, from_hatches}
use Rattle.zero_one_rows.proofs.Numbered.{in_rest, rest_inside, first_few}
use Rattle.zero_one_rows.proofs.Parts.{blocks_long}
use Rattle.zero_one_rows.proofs.row_lists.RowLists.from_blocks_at.Goals as goal

pub overflow_mul-blocks : goal.overflow_mul-blocks
overflow_mul-blocks c = let a = blocks_long c.args.self.now c.len.result c.len.ensures in let b = first_few (block_rows c.args.self.now) (from_hatches c.args.self.now) 2000000 c.requires.few in omega (arith, a, b)

pub returns-then-k-blocks : goal.returns-then-k-blocks
returns-then-k-blocks c = get_left (block_rows c.args.self.now) (from_hatches c.args.self.now) c.args.k c.block_at.result c.block_at.ensures

pub from_hatches_at-requires-clause-inside : goal.from_hatches_at-requires-clause-inside
from_hatches_at-requires-clause-inside c = rest_inside (block_rows c.args.self.now) (from_hatches c.args.self.now) (c.args.self.now.calls * c.len.result) c.args.k (blocks_long c.args.self.now c.len.result c.len.ensures) c.if-k-blocks.false c.requires.inside

pub returns : goal.returns
returns c = in_rest (block_rows c.args.self.now) (from_hatches c.args.self.now) (c.args.self.now.calls * c.len.result) c.args.k c.from_hatches_at.result (blocks_long c.args.self.now c.len.result c.len.ensures) c.if-k-blocks.false c.from_hatches_at.ensures
