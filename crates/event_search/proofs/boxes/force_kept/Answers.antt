use Rattle.std.proofs.Common.{◌∙◌, ap}
use Rattle.zero_one_rows.specs.declared.program.Row.{Row}
use Rattle.zero_one_rows.specs.Rows.{whole}
use Rattle.proof_trees.specs.Boxes.{tight}
use Rattle.event_search.proofs.boxes.force_kept.Goals as goal

pub returns : goal.returns
returns c = c.force.ensures ∙ ap (λ (r : Row). tight (whole c.args.model.now) c.args.b.now r) c.row-row.ensures
