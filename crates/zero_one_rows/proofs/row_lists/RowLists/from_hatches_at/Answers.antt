use Rattle.std.proofs.Common.{◌*◌, arith}
use Rattle.stow_data.proofs.InOrder.{get_left}
use Rattle.zero_one_rows.specs.Counted.{hatch_rows, from_weights}
use Rattle.zero_one_rows.proofs.Numbered.{in_rest, rest_inside, first_few}
use Rattle.zero_one_rows.proofs.Parts.{hatches_long}
use Rattle.zero_one_rows.proofs.row_lists.RowLists.from_hatches_at.Goals as goal

pub overflow_mul-hatches-2 : goal.overflow_mul-hatches-2
overflow_mul-hatches-2 c = let a = hatches_long c.args.self.now c.len.result c.len.ensures in let b = first_few (hatch_rows c.args.self.now) (from_weights c.args.self.now) 2000000 c.requires.few in omega (arith, a, b)

pub hatch_at-requires-clause-inside : goal.hatch_at-requires-clause-inside
hatch_at-requires-clause-inside c = let a = hatches_long c.args.self.now c.len.result c.len.ensures in omega (arith, a, c.if-k-hatches.true)

pub returns-then-k-hatches : goal.returns-then-k-hatches
returns-then-k-hatches c = get_left (hatch_rows c.args.self.now) (from_weights c.args.self.now) c.args.k c.hatch_at.result c.hatch_at.ensures

pub from_weights_at-requires-clause-inside : goal.from_weights_at-requires-clause-inside
from_weights_at-requires-clause-inside c = rest_inside (hatch_rows c.args.self.now) (from_weights c.args.self.now) (2 * (c.args.self.now.calls * c.len.result)) c.args.k (hatches_long c.args.self.now c.len.result c.len.ensures) c.if-k-hatches.false c.requires.inside

pub returns : goal.returns
returns c = in_rest (hatch_rows c.args.self.now) (from_weights c.args.self.now) (2 * (c.args.self.now.calls * c.len.result)) c.args.k c.from_weights_at.result (hatches_long c.args.self.now c.len.result c.len.ensures) c.if-k-hatches.false c.from_weights_at.ensures
