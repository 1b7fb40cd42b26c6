use Rattle.std.proofs.Common.{◌≡◌, ℕ, ap, arith, ◌∙◌, length}
use Rattle.voyage_meaning.specs.Moves.{lift_cost}
use Rattle.plan_lifts.specs.Spread.{has}
use Rattle.plan_lifts.proofs.Exact.{sum_down, sum_counted}
use Rattle.plan_lifts.proofs.listing.cost_of.Goals as goal

pub returns-clause-value : goal.returns-clause-value
returns-clause-value c =
    let all : c.loop-p.p ≡ length c.args.plan.now = omega (arith, c.requires.each_place) in
    c.loop-p.invariant.so_far ∙ (ap (λ (n : ℕ). sum_down (lift_cost c.args.cargo.now c.args.call) (has c.args.set.now) n c.args.plan.now) all ∙ sum_counted (lift_cost c.args.cargo.now c.args.call) (has c.args.set.now) c.args.plan.now)
