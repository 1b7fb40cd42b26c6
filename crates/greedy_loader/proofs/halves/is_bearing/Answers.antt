use Rattle.std.proofs.Common.{ℕ, refl, false, subst}
use Rattle.std.proofs.lemmas.Bool.{both_ways}
use Rattle.stowage_rules.proofs.Standing.{one_filler}
use Rattle.voyage_meaning.specs.Moves.{Bears}
use Rattle.greedy_loader.proofs.halves.is_bearing.Goals as goal

pub returns-in-None : goal.returns-in-None
returns-in-None c = (λ h. absurd (both_ways false refl h), λ x. absurd (c.in-None.ensures x.0 x.1))

pub returns-in-Some : goal.returns-in-Some
returns-in-Some c = (
  λ h. (c.in-Some.c, c.in-Some.ensures, c.bears.ensures.0 h),
  λ x. c.bears.ensures.1 (subst (λ (z : ℕ). Bears c.args.cargo.now c.args.long z) (one_filler c.args.ship.now c.args.cargo.now c.args.plan.now c.args.half.now x.0 c.in-Some.c c.requires.formed x.1 c.in-Some.ensures) x.2),
)
