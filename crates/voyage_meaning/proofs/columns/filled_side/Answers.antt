use Rattle.std.proofs.Common.{sym, subst}
use Rattle.std.proofs.lemmas.Bool.{both_ways}
use Rattle.stow_data.specs.declared.geometry.Half.{Half}
use Rattle.stowage_rules.specs.Plan.{Fills}
use Rattle.stowage_rules.proofs.Standing.{half_number}
use Rattle.voyage_meaning.proofs.TierSides.{filled_here}
use Rattle.voyage_meaning.proofs.columns.filled_side.Goals as goal

pub returns-then-not-takes_side : goal.returns-then-not-takes_side
returns-then-not-takes_side c = λ x. both_ways c.takes_side.result c.if-not-takes_side.true (c.takes_side.ensures.1 x.is_in.side)

pub number_of-requires : goal.number_of-requires
number_of-requires c = half_number c.args.ship.now c.in-Some.ensures.number c.in-Some.ensures.place c.side_of-half.result c.in-Some.ensures.is_place c.in-Some.ensures.has_half

pub returns-in-None : goal.returns-in-None
returns-in-None c = λ x. c.in-None.ensures x.taken.0 (subst (λ (z : Half). Fills c.args.ship.now c.args.plan.now z x.taken.0) (sym c.side_of-half.ensures) x.taken.1)

pub returns-in-Some : goal.returns-in-Some
returns-in-Some c = filled_here c.args.ship.now c.args.plan.now c.args.place.now c.args.tier c.number_of.result c.args.aft c.side_of-half.result c.in-Some.field-0 c.side_of-half.ensures (c.takes_side.ensures.0 c.if-not-takes_side.false) c.number_of.ensures c.in-Some.ensures
