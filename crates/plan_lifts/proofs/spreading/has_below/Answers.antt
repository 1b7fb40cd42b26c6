use Rattle.std.proofs.Common.{arith, refl, false, ◌-◌, ◌<◌, ◌≤◌, ◌+◌, ⊎_elim, ◌≡◌, ℕ, subst}
use Rattle.std.proofs.lemmas.Bool.{both_ways, cases_eq}
use Rattle.plan_lifts.specs.Spread.{has, IsAbove}
use Rattle.plan_lifts.proofs.Order.{over_is_later}
use Rattle.plan_lifts.proofs.Spreads.{none_before}
use Rattle.plan_lifts.proofs.spreading.has_below.Goals as goal

pub loop-steps-init : goal.loop-steps-init
loop-steps-init c = λ q l x. let low : q < c.args.p = over_is_later c.args.ship.now c.args.p q x.over in absurd (omega arith)

pub loop-steps-preserved : goal.loop-steps-preserved
loop-steps-preserved c =
    let same : c.p.inside.0 ≡ c.args.p = c.p.view_is in
    λ q l x. ⊎_elim
    (λ (e : q ≡ c.p.inside.0 - c.loop-steps.steps - 1). both_ways c.is_above.result c.if-is_above.false (c.is_above.ensures.1 (subst (λ (y : ℕ). IsAbove c.args.ship.now (has c.args.set.now) c.args.p y) e x)))
    (λ (ne : q ≡ c.p.inside.0 - c.loop-steps.steps - 1 → ⊥). c.loop-steps.invariant q (omega arith) x)
    (cases_eq q (c.p.inside.0 - c.loop-steps.steps - 1))

pub returns-then-is_far : goal.returns-then-is_far
returns-then-is_far c =
    let same : c.p.inside.0 ≡ c.args.p = c.p.view_is in (
      λ h. absurd (both_ways false refl h),
      λ x.
          let low : x.0 < c.args.p = over_is_later c.args.ship.now c.args.p x.0 x.1.over in
          let past : c.args.p ≤ x.0 + c.loop-steps.steps → ⊥ = λ l. c.loop-steps.invariant x.0 l x.1 in
          absurd (none_before c.args.ship.now c.args.p (c.p.inside.0 - c.loop-steps.steps - 1) c.place-upper.result c.place.result c.place-upper.ensures c.place.ensures (omega arith) (c.is_far.ensures.0 c.if-is_far.true) x.0 (omega arith) x.1.over),
    )

pub returns-then-is_above : goal.returns-then-is_above
returns-then-is_above c = (λ h. (c.p.inside.0 - c.loop-steps.steps - 1, c.is_above.ensures.0 c.if-is_above.true), λ x. refl)

pub returns : goal.returns
returns c = let same : c.p.inside.0 ≡ c.args.p = c.p.view_is in (λ h. absurd (both_ways false refl h), λ x. absurd (c.loop-steps.invariant x.0 (omega arith) x.1))
