use Rattle.std.proofs.Common.{◌-◌, ◌<◌, ◌≤◌, refl, arith, length, ⊎_elim}
use Rattle.std.proofs.lemmas.Bool.{both_ways, cases_lt}
use Rattle.std.proofs.lemmas.Option.{slice_get_within}
use Rattle.stow_data.specs.Ship.{places}
use Rattle.greedy_loader.specs.Rule.{NoneEarlierAt}
use Rattle.greedy_loader.proofs.Lower.{none_past, none_before, lower_more}
use Rattle.greedy_loader.proofs.clearing.is_clean_below.Goals as goal

pub loop-steps-init : goal.loop-steps-init
loop-steps-init c = λ q l. none_past c.args.ship.now c.args.cargo.now c.args.plan.now c.args.call c.args.p q c.args.place.now c.requires.at (omega arith)

pub place-requires : goal.place-requires
place-requires c = let i : c.args.p < length (places c.args.ship.now) = slice_get_within (places c.args.ship.now) c.args.p c.args.place.now c.requires.at in omega (arith, c.p.view_is)

pub is_none_earlier_at-requires-clause-inside : goal.is_none_earlier_at-requires-clause-inside
is_none_earlier_at-requires-clause-inside c = let i : c.args.p < length (places c.args.ship.now) = slice_get_within (places c.args.ship.now) c.args.p c.args.place.now c.requires.at in omega (arith, c.p.view_is)

pub returns-then-not-is_same_stack : goal.returns-then-not-is_same_stack
returns-then-not-is_same_stack c = (
  λ h q. ⊎_elim
      (λ (l : c.p.inside.0 - 1 - c.loop-steps.steps < q). c.loop-steps.invariant q (omega (arith, c.p.view_is)))
      (λ (l : q ≤ c.p.inside.0 - 1 - c.loop-steps.steps). none_before c.args.ship.now c.args.cargo.now c.args.plan.now c.args.call c.args.p (c.p.inside.0 - 1 - c.loop-steps.steps) q c.args.place.now c.place.result c.requires.at c.place.ensures (omega (arith, c.p.view_is)) (λ same. both_ways c.is_same_stack.result c.if-not-is_same_stack.true (c.is_same_stack.ensures.1 same)) l)
      (cases_lt (c.p.inside.0 - 1 - c.loop-steps.steps) q),
  λ x. refl,
)

pub loop-steps-preserved : goal.loop-steps-preserved
loop-steps-preserved c = lower_more (NoneEarlierAt c.args.ship.now c.args.cargo.now c.args.plan.now c.args.call c.args.place.now) c.args.p (c.p.inside.0 - 1 - c.loop-steps.steps) c.loop-steps.steps (omega (arith, c.p.view_is)) (c.is_none_earlier_at.ensures.0 c.if-not-is_none_earlier_at.false) c.loop-steps.invariant

pub returns : goal.returns
returns c = (λ h q. c.loop-steps.invariant q (omega (arith, c.p.view_is)), λ x. refl)
