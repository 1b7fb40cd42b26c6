use Rattle.std.proofs.Common.{◌∙◌, sym, subst, Option}
use Rattle.std.specs.Prelude.{IfSome}
use Rattle.dual_bound.specs.declared.costs.Costs.{Costs}
use Rattle.dual_bound.specs.Costs.{Priced}
use Rattle.bound_checker.proofs.sums.Sums.let_go.Goals as goal

pub cleaned-requires-clause-zero : goal.cleaned-requires-clause-zero
cleaned-requires-clause-zero c = c.requires.carries.1.1.blank.zero

pub cleaned-requires-clause-rows : goal.cleaned-requires-clause-rows
cleaned-requires-clause-rows c = c.requires.carries.1.1.rows

pub cleaned-requires-clause-costs : goal.cleaned-requires-clause-costs
cleaned-requires-clause-costs c =
    let a = c.requires.aside in
    (a.0, a.1, subst (λ (o : Option Costs). IfSome o (Priced c.args.model.now a.0 a.1)) (sym c.take.ensures.value ∙ c.in-Some.is) a.2.priced, a.2.amounts)
