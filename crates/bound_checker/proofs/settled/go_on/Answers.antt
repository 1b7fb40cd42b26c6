use Rattle.std.proofs.Common.{◌≡◌, ◌≢◌, ◌∙◌, ap, Err}
use Rattle.std.proofs.lemmas.Result.{err_from_is_err_and}
use Rattle.certificate.specs.declared.refusals.BoundNo.{BoundNo}
use Rattle.certificate.specs.declared.refusals.BoundNo.TheVariants.{NoMemory}
use Rattle.bound_checker.proofs.Bounding.{if_err_at}
use Rattle.bound_checker.proofs.Passing.{stands_there, passed_by}
use Rattle.bound_checker.proofs.settled.go_on.Goals as goal

pub returns-in_err-best-clause-refused : goal.returns-in_err-best-clause-refused
returns-in_err-best-clause-refused c = λ most stays proves.
    let p = err_from_is_err_and c.from_residual.result c.from_residual.ensures.1 in
    let g : c.from_residual.result ≡ Err c.in_err-best.field-0.0 = p.1 ∙ ap (λ (f : BoundNo). Err f) p.2 in
    if_err_at (λ (f : BoundNo). f ≢ NoMemory → ⊥) c.from_residual.result c.in_err-best.field-0.0 g (c.in_err-best.ensures.refused most stays proves)

pub leave-requires : goal.leave-requires
leave-requires c = record { stands = stands_there c.args.model.now c.requires.stays.0 c.args.tree.now c.args.at.place c.args.at.best c.args.walk.now c.requires.stays.1 c.in-Some.size c.in-Some.ensures.size }

pub returns-clause-best : goal.returns-clause-best
returns-clause-best c = λ most stays.
    passed_by c.args.model.now most c.args.tree.now c.args.at.place c.args.at.best c.args.walk.now stays c.in-Some.size c.leave.new.self c.in-Some.ensures.size c.in_ok-leave.ensures
