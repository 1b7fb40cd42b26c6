use Rattle.std.proofs.Common.{◌≡◌, ◌*◌, ◌≤◌, length, refl, sym, subst, arith}
use Rattle.stow_data.specs.declared.geometry.Stack.{Stack}
use Rattle.stow_data.specs.Ship.{spans}
use Rattle.ship_profile.proofs.Counted.{count_on, at_most}
use Rattle.ship_profile.proofs.profile_text.places_in.Goals as goal

pub loop-stack-preserved : goal.loop-stack-preserved
loop-stack-preserved c =
    let s = c.stack-item.result in
    let more = count_on c.args.stacks.now c.loop-stack.stack-index s c.loop-stack-test.true c.stack-item.is in
    let low : s.tiers ≤ 98 = subst (λ (z : Stack). z.tiers ≤ 98) (sym c.stack-item.is) (c.requires.low c.loop-stack.stack-index s c.loop-stack-test.true) in
    let tiers : c.from.result ≤ 98 = omega (arith, low, c.from.ensures) in
    let product : c.from.result * c.places_of_tier.result ≡ s.tiers * length (spans s.lengths) = rw (c.from.ensures, c.places_of_tier.ensures.value) refl in
    let small = at_most c.from.result c.places_of_tier.result tiers c.places_of_tier.ensures.few in
    record {
      small = omega (arith, small, c.loop-stack.invariant.small);
      counted = omega (arith, more, product, c.loop-stack.invariant.counted);
    }
