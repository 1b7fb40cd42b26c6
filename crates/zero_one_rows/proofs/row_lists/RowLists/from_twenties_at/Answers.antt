use Rattle.std.proofs.Common.{◌*◌, arith}
use Rattle.stow_data.proofs.InOrder.{get_left}
use Rattle.zero_one_rows.specs.Counted.{twenty_rows, from_blocks}
use Rattle.zero_one_rows.proofs.Numbered.{in_rest, rest_inside, first_few}
use Rattle.zero_one_rows.proofs.Parts.{twenties_long}
use Rattle.zero_one_rows.proofs.row_lists.RowLists.from_twenties_at.Goals as goal

pub overflow_mul-twenties : goal.overflow_mul-twenties
overflow_mul-twenties c = let a = twenties_long c.args.self.now c.len.result c.len.ensures in let b = first_few (twenty_rows c.args.self.now) (from_blocks c.args.self.now) 2000000 c.requires.few in omega (arith, a, b)

pub returns-then-k-twenties : goal.returns-then-k-twenties
returns-then-k-twenties c = get_left (twenty_rows c.args.self.now) (from_blocks c.args.self.now) c.args.k c.twenty_at.result c.twenty_at.ensures

pub from_blocks_at-requires-clause-inside : goal.from_blocks_at-requires-clause-inside
from_blocks_at-requires-clause-inside c = rest_inside (twenty_rows c.args.self.now) (from_blocks c.args.self.now) (c.args.self.now.calls * c.len.result) c.args.k (twenties_long c.args.self.now c.len.result c.len.ensures) c.if-k-twenties.false c.requires.inside

pub returns : goal.returns
returns c = in_rest (twenty_rows c.args.self.now) (from_blocks c.args.self.now) (c.args.self.now.calls * c.len.result) c.args.k c.from_blocks_at.result (twenties_long c.args.self.now c.len.result c.len.ensures) c.if-k-twenties.false c.from_blocks_at.ensures
