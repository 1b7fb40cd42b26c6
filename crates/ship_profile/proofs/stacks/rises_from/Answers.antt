use Rattle.std.proofs.Common.{◌≡◌, ◌≢◌, get_or, sym, ◌∙◌, arith}
use Rattle.ship_profile.proofs.Rising.{rises_on, rises_no_more, has_risen}
use Rattle.ship_profile.proofs.stacks.rises_from.Goals as goal

pub returns-then-from-next : goal.returns-then-from-next
returns-then-from-next c =
    let ne : get_or c.args.tiers.now c.loop-tier.tier-index 0 ≢ c.loop-tier.next = omega (arith, c.from.ensures) in
    sym (rises_no_more c.args.tiers.now c.loop-tier.tier-index c.loop-tier.next c.loop-tier-test.true ne) ∙ c.loop-tier.invariant

pub loop-tier-preserved : goal.loop-tier-preserved
loop-tier-preserved c =
    let e : get_or c.args.tiers.now c.loop-tier.tier-index 0 ≡ c.loop-tier.next = omega (arith, c.from.ensures) in
    rises_on c.args.tiers.now c.loop-tier.tier-index c.loop-tier.next _ c.loop-tier-test.true e c.loop-tier.invariant

pub returns : goal.returns
returns c = sym (has_risen c.args.tiers.now c.loop-tier.tier-index c.loop-tier.next (omega arith)) ∙ c.loop-tier.invariant
