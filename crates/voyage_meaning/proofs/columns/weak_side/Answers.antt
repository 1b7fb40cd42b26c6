use Rattle.std.proofs.Common.{subst}
use Rattle.std.proofs.lemmas.Bool.{both_ways}
use Rattle.std.proofs.lemmas.Option.{slice_get_within}
use Rattle.stow_data.specs.declared.geometry.Half.{Half}
use Rattle.stow_data.specs.Ship.{places}
use Rattle.voyage_meaning.specs.Refusals.{IsBearing}
use Rattle.voyage_meaning.proofs.TierSides.{below_number, weak_here}
use Rattle.voyage_meaning.proofs.columns.weak_side.Goals as goal

pub returns-then-not-takes_side : goal.returns-then-not-takes_side
returns-then-not-takes_side c = λ x. both_ways c.takes_side.result c.if-not-takes_side.true (c.takes_side.ensures.1 x.is_in.side)

pub is_bearing-requires-clause-inside : goal.is_bearing-requires-clause-inside
is_bearing-requires-clause-inside c = slice_get_within (places c.args.ship.now) c.args.p c.args.place.now c.requires.is_place

pub returns-then-is_bearing : goal.returns-then-is_bearing
returns-then-is_bearing c = λ x. x.fails (subst (λ (z : Half). IsBearing c.args.ship.now c.args.cargo.now c.args.plan.now c.args.long z) c.side_of-half.ensures (c.is_bearing.ensures.0 c.if-is_bearing.true))

pub number_of-requires : goal.number_of-requires
number_of-requires c = below_number c.args.ship.now c.args.p c.args.place.now c.args.aft c.side_of-half.result c.requires.is_place c.requires.above c.side_of-half.ensures (c.takes_side.ensures.0 c.if-not-takes_side.false)

pub returns : goal.returns
returns c = weak_here c.args.ship.now c.args.cargo.now c.args.plan.now c.args.place.now c.args.long c.number_of.result c.args.aft c.side_of-half.result c.requires.above c.side_of-half.ensures (c.takes_side.ensures.0 c.if-not-takes_side.false) c.number_of.ensures (λ x. both_ways c.is_bearing.result c.if-is_bearing.false (c.is_bearing.ensures.1 x))
