use Rattle.std.proofs.Common.{◌≡◌, ◌≢◌, ◌∙◌, ap, Err}
use Rattle.std.proofs.lemmas.Result.{err_from_is_err_and}
use Rattle.certificate.specs.declared.refusals.BoundNo.{BoundNo}
use Rattle.certificate.specs.declared.refusals.BoundNo.TheVariants.{NoMemory}
use Rattle.bound_checker.specs.Entries.{ProvesBound}
use Rattle.bound_checker.proofs.Bounding.{bounds, proves_where, proves_nowhere, if_err_at}
use Rattle.bound_checker.proofs.check.check_bound.Goals as goal

pub returns-clause-proves : goal.returns-clause-proves
returns-clause-proves c = let n = c.in_ok-walk_tree.ensures.best in proves_where c.args.model.now c.args.tree.now c.args.bound (n.passes c.args.bound n.from)

pub returns-clause-costs : goal.returns-clause-costs
returns-clause-costs c = bounds c.args.model.now c.args.tree.now c.args.bound (returns-clause-proves c)

pub returns-in_err-walk_tree-clause-short : goal.returns-in_err-walk_tree-clause-short
returns-in_err-walk_tree-clause-short c =
    let p = err_from_is_err_and c.from_residual.result c.from_residual.ensures.1 in
    let g : c.from_residual.result ≡ Err c.in_err-walk_tree.field-0.0 = p.1 ∙ ap (λ (f : BoundNo). Err f) p.2 in
    if_err_at (λ (f : BoundNo). f ≢ NoMemory → ProvesBound c.args.model.now c.args.tree.now c.args.bound → ⊥) c.from_residual.result c.in_err-walk_tree.field-0.0 g
    (λ other. proves_nowhere c.args.model.now c.args.tree.now c.args.bound c.in_err-walk_tree.field-0.0 (c.in_err-walk_tree.ensures.refused other))
