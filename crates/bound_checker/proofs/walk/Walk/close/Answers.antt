use Rattle.std.proofs.Common.{◌≡◌, ◌∙◌, ap, sym, subst, ℕ, Result, Err}
use Rattle.std.proofs.lemmas.Result.{err_from_is_err_and}
use Rattle.proof_trees.specs.Trees.{Leaf}
use Rattle.certificate.specs.declared.refusals.BoundNo.{BoundNo}
use Rattle.bound_checker.specs.Walks.{Closes}
use Rattle.bound_checker.proofs.Walks.{closed, not_closed}
use Rattle.bound_checker.proofs.walk.Walk.close.Goals as goal

pub returns : goal.returns
returns c = λ q qs stands. closed c.args.model.now c.args.bounds c.args.node q qs c.args.self.now.b c.in_ok-best.best c.leave.new.self stands.box (c.in_ok-best.ensures c.args.model.now c.args.self.now.b q.multipliers stands.carries) (c.in_ok-leave.ensures q qs stands)

pub returns-in_err-best : goal.returns-in_err-best
returns-in_err-best c = λ q qs stands.
    let p = err_from_is_err_and c.from_residual.result c.from_residual.ensures.1 in
    let g : c.from_residual.result ≡ Err c.in_err-best.field-0.0 = p.1 ∙ ap (λ (f : BoundNo). Err f) p.2 in
    subst (λ (r : Result ℕ BoundNo). Closes c.args.model.now c.args.bounds c.args.node q qs Leaf r c.args.self.now) (sym g)
    (not_closed c.args.model.now c.args.bounds c.args.node q qs c.args.self.now.b c.in_err-best.field-0.0 c.args.self.now stands.box (c.in_err-best.ensures c.args.model.now c.args.self.now.b q.multipliers stands.carries))
