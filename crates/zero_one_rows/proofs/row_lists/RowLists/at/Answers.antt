use Rattle.zero_one_rows.proofs.Parts.{base_few, crosses_few, in_base, past_base, past_base_inside}
use Rattle.zero_one_rows.proofs.row_lists.RowLists.at.Goals as goal

pub base_at-requires-clause-few : goal.base_at-requires-clause-few
base_at-requires-clause-few c = base_few c.args.self.now c.requires.few

pub returns-then-k-base : goal.returns-then-k-base
returns-then-k-base c = in_base c.args.self.now c.args.k c.base_at.result c.base_at.ensures

pub cross_at-requires-clause-inside : goal.cross_at-requires-clause-inside
cross_at-requires-clause-inside c = past_base_inside c.args.self.now c.args.base c.args.k c.requires.base c.if-k-base.false c.requires.inside

pub cross_at-requires-clause-few : goal.cross_at-requires-clause-few
cross_at-requires-clause-few c = crosses_few c.args.self.now c.requires.few

pub returns : goal.returns
returns c = past_base c.args.self.now c.args.base c.args.k c.cross_at.result c.requires.base c.if-k-base.false c.cross_at.ensures
