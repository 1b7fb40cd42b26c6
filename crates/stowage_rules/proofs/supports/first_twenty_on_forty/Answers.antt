use Rattle.std.proofs.Common.{arith, below_more, sym, ◌∙◌, subst}
use Rattle.std.proofs.lemmas.Bool.{both_ways}
use Rattle.std.proofs.lemmas.Option.{same_Some, slice_get_within}
use Rattle.stow_data.specs.declared.geometry.Half.{Half}
use Rattle.stow_data.specs.Ship.{halves}
use Rattle.stowage_rules.specs.Faults.{IsTwentyOnForty}
use Rattle.stowage_rules.proofs.supports.first_twenty_on_forty.Goals as goal

pub loop-h-preserved : goal.loop-h-preserved
loop-h-preserved c = record {
  inside = c.first_of_tier-near.ensures.inside;
  none = below_more _ _ c.loop-h.invariant.none (λ x. both_ways c.is_twenty_on_forty.result c.if-is_twenty_on_forty.false (c.is_twenty_on_forty.ensures.1 (subst (λ (z : Half). IsTwentyOnForty c.args.ship.now c.args.cargo.now c.args.plan.now z) (same_Some x.half c.half-half.result (sym x.is_half ∙ c.half-half.ensures)) x.holds)));
}

pub returns-then-is_twenty_on_forty : goal.returns-then-is_twenty_on_forty
returns-then-is_twenty_on_forty c = record {
  holds = record { half = c.half-half.result; is_half = c.half-half.ensures; holds = c.is_twenty_on_forty.ensures.0 c.if-is_twenty_on_forty.true };
  none_below = c.loop-h.invariant.none;
}

pub returns : goal.returns
returns c = λ h x. c.loop-h.invariant.none h (omega (arith, slice_get_within (halves c.args.ship.now) h x.half x.is_half)) x
