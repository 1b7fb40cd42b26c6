use Rattle.std.proofs.Common.{◌*◌, arith}
use Rattle.stow_data.proofs.InOrder.{get_left}
use Rattle.zero_one_rows.specs.Counted.{support_rows, from_twenties}
use Rattle.zero_one_rows.proofs.Numbered.{in_rest, rest_inside, first_few}
use Rattle.zero_one_rows.proofs.Parts.{supports_long}
use Rattle.zero_one_rows.proofs.row_lists.RowLists.from_supports_at.Goals as goal

pub overflow_mul-supports : goal.overflow_mul-supports
overflow_mul-supports c = let a = supports_long c.args.self.now c.len.result c.len.ensures in let b = first_few (support_rows c.args.self.now) (from_twenties c.args.self.now) 2000000 c.requires.few in omega (arith, a, b)

pub returns-then-k-supports : goal.returns-then-k-supports
returns-then-k-supports c = get_left (support_rows c.args.self.now) (from_twenties c.args.self.now) c.args.k c.support_at.result c.support_at.ensures

pub from_twenties_at-requires-clause-inside : goal.from_twenties_at-requires-clause-inside
from_twenties_at-requires-clause-inside c = rest_inside (support_rows c.args.self.now) (from_twenties c.args.self.now) (c.args.self.now.calls * c.len.result) c.args.k (supports_long c.args.self.now c.len.result c.len.ensures) c.if-k-supports.false c.requires.inside

pub returns : goal.returns
returns c = in_rest (support_rows c.args.self.now) (from_twenties c.args.self.now) (c.args.self.now.calls * c.len.result) c.args.k c.from_twenties_at.result (supports_long c.args.self.now c.len.result c.len.ensures) c.if-k-supports.false c.from_twenties_at.ensures
