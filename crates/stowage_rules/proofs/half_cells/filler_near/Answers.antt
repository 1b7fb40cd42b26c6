use Rattle.std.proofs.Common.{arith, below_more}
use Rattle.std.proofs.lemmas.Bool.{both_ways}
use Rattle.stowage_rules.proofs.Fillers.{from, inside}
use Rattle.stowage_rules.proofs.Standing.{none_earlier, none_later}
use Rattle.stowage_rules.proofs.half_cells.filler_near.Goals as goal

pub loop-p-init : goal.loop-p-init
loop-p-init c = none_earlier c.args.ship.now c.args.plan.now c.args.h.now c.first_of_tier-p.result c.first_of_tier-p.ensures.first

pub loop-p-preserved : goal.loop-p-preserved
loop-p-preserved c = below_more _ _ c.loop-p.invariant c.in_default.ensures

pub returns-then-not-is_in_tier : goal.returns-then-not-is_in_tier
returns-then-not-is_in_tier c = none_later c.args.ship.now c.args.plan.now c.args.h.now c.first_of_tier-p.result c.loop-p.p c.place.result c.first_of_tier-p.ensures.first c.loop-p.auto.p c.place.ensures (λ x. both_ways c.is_in_tier.result c.if-not-is_in_tier.true (c.is_in_tier.ensures.1 x)) c.loop-p.invariant

pub returns : goal.returns
returns c = λ d x. c.loop-p.invariant x.number (omega (arith, inside x)) d (from x)
