use Rattle.std.proofs.Common.{refl, false}
use Rattle.event_search.proofs.Listed.{never}
use Rattle.event_search.proofs.Halves.{always_numbered, is_free, divides_free, never_whole}
use Rattle.event_search.proofs.verdicts.divides.Goals as goal

pub returns-in-Some : goal.returns-in-Some
returns-in-Some c = (
  λ h. divides_free c.args.model.now c.args.b.now c.args.end.now c.in-Branch.var c.in-Branch.is c.in-Some.x c.in-Some.ensures.0 c.in-Some.ensures.1 (c.is_free.ensures.0 h),
  λ d. c.is_free.ensures.1 (is_free c.args.model.now c.args.b.now c.args.end.now c.in-Branch.var c.in-Branch.is c.in-Some.x c.in-Some.ensures.0 c.in-Some.ensures.1 d c.requires),
)

pub returns-in-None : goal.returns-in-None
returns-in-None c = (λ h. absurd (never false refl h), λ d. absurd (always_numbered c.args.model.now c.args.b.now c.args.end.now c.in-Branch.var c.in-Branch.is c.in-None.ensures d))

pub returns-in-Leaf : goal.returns-in-Leaf
returns-in-Leaf c = (λ h. absurd (never false refl h), λ d. absurd (never_whole c.args.model.now c.args.b.now c.args.end.now c.in-Leaf.is d))
