use Rattle.std.proofs.Common.{[], ap, ◌∙◌}
use Rattle.std.specs.Prelude.{unwrap_or}
use Rattle.ship_profile.specs.Covers.{stacks_at}
use Rattle.ship_profile.proofs.stack_finder.StackFinder.stacks_at.Goals as goal

pub returns-in-Some : goal.returns-in-Some
returns-in-Some c =
    c.as_slice.ensures ∙ ap (λ o. unwrap_or o []) (rw c.position_of.ensures at c.in-Some.ensures.value) ∙ c.self.invariant.same c.args.part c.args.pair ∙ ap (λ ss. stacks_at c.args.part ss c.args.pair) c.self.view_is

pub returns-in-None : goal.returns-in-None
returns-in-None c = ap (λ o. unwrap_or o []) (rw c.position_of.ensures at c.in-None.ensures.value) ∙ c.self.invariant.same c.args.part c.args.pair ∙ ap (λ ss. stacks_at c.args.part ss c.args.pair) c.self.view_is
