use Rattle.std.proofs.Common.{refl, false, arith}
use Rattle.std.proofs.lemmas.Bool.{both_ways}
use Rattle.stowage_rules.proofs.Standing.{below_of, twenty_where, twenty_says}
use Rattle.stowage_rules.proofs.supports.is_twenty_on_forty.Goals as goal

pub returns-in-None : goal.returns-in-None
returns-in-None c = (λ h. absurd (both_ways false refl h), λ x. absurd (c.in-None.ensures x.container x.fills))

pub returns-in-None-filler_near : goal.returns-in-None-filler_near
returns-in-None-filler_near c = (λ h. absurd (both_ways false refl h), λ x. absurd (c.in-None-filler_near.ensures x.below (below_of c.args.ship.now c.args.cargo.now c.args.plan.now c.args.half.now c.half_below-below.result c.half_below-below.ensures x)))

pub returns-in-Some-filler_near : goal.returns-in-Some-filler_near
returns-in-Some-filler_near c = (
  λ h. let alone = c.is_alone_twenty.ensures.0 h in
      twenty_where c.args.ship.now c.args.cargo.now c.args.plan.now c.args.half.now c.half_below-below.result c.in-Some.c c.in-Some-filler_near.d c.requires.formed (omega arith) c.half_below-below.ensures c.in-Some.ensures c.in-Some-filler_near.ensures alone.0 alone.1,
  λ x. c.is_alone_twenty.ensures.1 (twenty_says c.args.ship.now c.args.cargo.now c.args.plan.now c.args.half.now c.half_below-below.result c.in-Some.c c.in-Some-filler_near.d c.requires.formed c.half_below-below.ensures c.in-Some.ensures c.in-Some-filler_near.ensures x),
)
