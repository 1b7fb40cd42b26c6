use Rattle.std.proofs.Common.{◌∙◌, ap}
use Rattle.zero_one_rows.specs.Rows.{whole}
use Rattle.proof_trees.specs.Boxes.{Box, tight}
use Rattle.node_work.proofs.retracing.tighten_looked_up.Goals as goal

pub returns-clause-tight : goal.returns-clause-tight
returns-clause-tight c = c.adopt.ensures.known ∙ c.in_ok-tighten_by.ensures.tight ∙ ap (λ (b : Box). tight (whole c.args.model.now) b c.args.row.now) (c.in_ok-b.ensures ∙ c.now.ensures)
