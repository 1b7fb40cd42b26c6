use Rattle.std.proofs.Common.{arith}
use Rattle.std.proofs.lemmas.Bool.{both_ways}
use Rattle.stowage_rules.proofs.StackWeights.{weigh_more, weigh_all, none_yet, none_after}
use Rattle.stowage_rules.proofs.weights.weight_of_stack.Goals as goal

pub loop-p-init : goal.loop-p-init
loop-p-init c = record { so_far = none_yet c.args.ship.now c.args.cargo.now c.args.plan.now c.args.s c.args.from c.requires.first; small = omega arith }

pub loop-p-preserved : goal.loop-p-preserved
loop-p-preserved c = record {
  so_far = weigh_more c.args.ship.now c.args.cargo.now c.args.plan.now c.args.s c.loop-p.p c.loop-p.total c.weight_at-total.result c.requires.each_place (omega arith) c.loop-p.invariant.so_far c.weight_at-total.ensures.value;
  small = omega (arith, c.weight_at-total.ensures.small, c.loop-p.invariant.small);
}

pub returns-then-not-is_in_stack : goal.returns-then-not-is_in_stack
returns-then-not-is_in_stack c = none_after c.args.ship.now c.args.cargo.now c.args.plan.now c.args.s c.args.from c.loop-p.p c.loop-p.total c.place.result c.requires.first c.loop-p.auto.p c.place.ensures (λ x. both_ways c.is_in_stack.result c.if-not-is_in_stack.true (c.is_in_stack.ensures.1 x)) c.loop-p.invariant.so_far

pub returns : goal.returns
returns c = weigh_all c.args.ship.now c.args.cargo.now c.args.plan.now c.args.s c.loop-p.p c.loop-p.total (omega arith) c.loop-p.invariant.so_far
