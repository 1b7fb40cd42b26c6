use Rattle.std.proofs.Common.{subst, Option, Some}
use Rattle.std.specs.Prelude.{IfSome}
use Rattle.dual_bound.specs.declared.costs.Costs.{Costs}
use Rattle.dual_bound.specs.Costs.{Priced}
use Rattle.bound_checker.specs.declared.sums.Aside.{Aside}
use Rattle.bound_checker.specs.Sums.{Carries, IsAside}
use Rattle.bound_checker.specs.Waits.{in_hand}
use Rattle.bound_checker.proofs.sums.Sums.bring_back.Goals as goal

pub returns-in-Some-costs : goal.returns-in-Some-costs
returns-in-Some-costs c = λ ms carries aside small.
    let m = c.args.model.now in
    let b = c.args.b.now in
    let here : Carries m b (in_hand (Some c.in-Some.field-0) ms) c.args.self.now = subst (λ (o : Option Aside). Carries m b (in_hand o ms) c.args.self.now) c.in-Some.is carries in
    let is : IfSome (Some c.in-Some.field-0) (IsAside m b ms) = subst (λ (o : Option Aside). IfSome o (IsAside m b ms)) c.in-Some.is aside in
    c.take_up.ensures m b ms here is.amounts
    (subst (λ (o : Option Costs). IfSome o (Priced m b ms)) c.in-Some-costs.is is.priced)
