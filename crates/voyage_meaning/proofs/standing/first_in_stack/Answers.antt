use Rattle.std.proofs.Common.{arith, below_more, sym, ◌∙◌, subst}
use Rattle.std.proofs.lemmas.Bool.{both_ways}
use Rattle.std.proofs.lemmas.Option.{same_Some, slice_get_within}
use Rattle.stow_data.specs.declared.geometry.Half.{Half}
use Rattle.stow_data.specs.Ship.{halves}
use Rattle.stowage_rules.specs.Places.{IsTaken}
use Rattle.voyage_meaning.proofs.OnStacks.{none_before, none_behind}
use Rattle.voyage_meaning.proofs.standing.first_in_stack.Goals as goal

pub loop-h-init : goal.loop-h-init
loop-h-init c = record {
  inside = c.place_near-near.ensures;
  none = none_before c.args.ship.now c.args.plan.now c.args.stack c.first_of_stack-h.result c.first_of_stack-h.ensures.first;
}

pub loop-h-preserved : goal.loop-h-preserved
loop-h-preserved c = record {
  inside = c.first_of_tier-near.ensures.inside;
  none = below_more _ _ c.loop-h.invariant.none (λ x. both_ways c.is_filled.result c.if-is_filled.false (c.is_filled.ensures.1 (subst (λ (z : Half). IsTaken c.args.ship.now c.args.plan.now z) (same_Some x.half c.half-half.result (sym x.is_half ∙ c.half-half.ensures)) x.holds.taken)));
}

pub returns-then-not-is_of : goal.returns-then-not-is_of
returns-then-not-is_of c = none_behind c.args.ship.now c.args.plan.now c.args.stack c.first_of_stack-h.result c.loop-h.h c.half-half.result c.first_of_stack-h.ensures.first (omega arith) c.half-half.ensures (λ e. both_ways c.is_of.result c.if-not-is_of.true (c.is_of.ensures.1 e)) c.loop-h.invariant.none

pub returns-then-is_filled : goal.returns-then-is_filled
returns-then-is_filled c = record {
  holds = record { half = c.half-half.result; is_half = c.half-half.ensures; holds = record { same_stack = c.is_of.ensures.0 c.if-not-is_of.false; taken = c.is_filled.ensures.0 c.if-is_filled.true } };
  none_below = c.loop-h.invariant.none;
}

pub returns : goal.returns
returns c = λ h x. c.loop-h.invariant.none h (omega (arith, slice_get_within (halves c.args.ship.now) h x.half x.is_half)) x
