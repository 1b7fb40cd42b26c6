use Rattle.std.proofs.Common.{◌≡◌, OnOk, subst}
use Rattle.zero_one_rows.specs.declared.program.Row.{Row}
use Rattle.zero_one_rows.specs.Rows.{whole}
use Rattle.proof_trees.specs.Boxes.{tight}
use Rattle.bound_checker.proofs.steps.take_step.Goals as goal

pub returns-clause-tight : goal.returns-clause-tight
returns-clause-tight c = subst (λ (r : Row). OnOk c.tighten_one.result (c.tighten_one.new.b ≡ tight (whole c.args.model.now) c.args.b.now r)) c.row-row.ensures c.tighten_one.ensures.tight
