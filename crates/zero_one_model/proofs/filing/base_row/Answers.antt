use Rattle.std.proofs.Common.{arith}
use Rattle.zero_one_model.proofs.Filed.{base_first, base_few}
use Rattle.zero_one_model.proofs.filing.base_row.Goals as goal

pub at-requires-clause-inside : goal.at-requires-clause-inside
at-requires-clause-inside c = let few = base_few c.args.lists.now in omega (arith, c.requires.inside, few)

pub returns : goal.returns
returns c = base_first c.args.lists.now c.args.k c.at.result c.requires.inside c.at.ensures
