use Rattle.std.proofs.Common.{arith}
use Rattle.zero_one_rows.specs.Rows.{whole}
use Rattle.proof_trees.specs.Trees.{root}
use Rattle.node_work.proofs.Walks.{same_length}
use Rattle.node_work.proofs.positions.TreePosition.walk_to.Goals as goal

pub in_common-depth-requires : goal.in_common-depth-requires
in_common-depth-requires c = same_length c.args.model.now (root (whole c.args.model.now)) c.args.path.now c.args.trail.now c.requires.trail

pub rejoin-requires-clause-branches : goal.rejoin-requires-clause-branches
rejoin-requires-clause-branches c = omega (arith, c.in_common-depth.ensures.records, same_length c.args.model.now (root (whole c.args.model.now)) c.args.path.now c.args.trail.now c.requires.trail)
