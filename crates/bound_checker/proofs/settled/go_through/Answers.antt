use Rattle.std.proofs.Common.{◌≡◌, ◌≢◌, ◌∙◌, ap, Err, arith}
use Rattle.std.proofs.lemmas.Result.{err_from_is_err_and}
use Rattle.certificate.specs.declared.refusals.BoundNo.{BoundNo}
use Rattle.certificate.specs.declared.refusals.BoundNo.TheVariants.{NoMemory}
use Rattle.bound_checker.proofs.Bounding.{if_err_at}
use Rattle.bound_checker.proofs.Passing.{gone_through}
use Rattle.bound_checker.proofs.settled.go_through.Goals as goal

pub returns-in_err-at-clause-refused : goal.returns-in_err-at-clause-refused
returns-in_err-at-clause-refused c =
    let p = err_from_is_err_and c.from_residual.result c.from_residual.ensures.1 in
    let g : c.from_residual.result ≡ Err c.in_err-at.field-0.0 = p.1 ∙ ap (λ (f : BoundNo). Err f) p.2 in
    if_err_at (λ (f : BoundNo). f ≢ NoMemory → ⊥) c.from_residual.result c.in_err-at.field-0.0 g (c.in_err-at.ensures.refused c.args.most c.loop-at.invariant c.requires.proves)

pub returns-clause-best : goal.returns-clause-best
returns-clause-best c = gone_through c.args.model.now c.args.most c.args.tree.now c.loop-at.at.place c.loop-at.at.best c.loop-at.walk c.loop-at.invariant (omega (arith, c.loop-at-test.false))
