use Rattle.std.proofs.Common.{ap, ◌∙◌}
use Rattle.zero_one_rows.specs.declared.program.Row.{Row}
use Rattle.zero_one_rows.specs.Rows.{whole}
use Rattle.proof_trees.specs.Boxes.{tight}
use Rattle.bound_checker.proofs.steps.tighten_one.Goals as goal

pub returns-in-Some-clause-tight : goal.returns-in-Some-clause-tight
returns-in-Some-clause-tight c = c.in_ok-tighten_listed.ensures.tight ∙ ap (λ (r : Row). tight (whole c.args.model.now) c.args.b.now r) c.in-Some.ensures.row
