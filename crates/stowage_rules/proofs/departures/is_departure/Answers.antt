use Rattle.std.proofs.Common.{refl, false}
use Rattle.std.proofs.lemmas.Bool.{both_ways}
use Rattle.stowage_rules.proofs.InRank.{breaks}
use Rattle.stowage_rules.proofs.departures.is_departure.Goals as goal

pub returns-then-not-is_well_formed : goal.returns-then-not-is_well_formed
returns-then-not-is_well_formed c = (λ h. absurd (both_ways false refl h), λ x. absurd (both_ways c.is_well_formed.result c.if-not-is_well_formed.true (c.is_well_formed.ensures.1 x.stowed.well_formed)))

pub returns-then-not-holds_aboard : goal.returns-then-not-holds_aboard
returns-then-not-holds_aboard c = (λ h. absurd (both_ways false refl h), λ x. absurd (both_ways c.holds_aboard.result c.if-not-holds_aboard.true (c.holds_aboard.ensures.1 x.stowed.aboard)))

pub returns-in-None : goal.returns-in-None
returns-in-None c = (
  λ h. record {
    stowed = record { well_formed = c.is_well_formed.ensures.0 c.if-not-is_well_formed.false; aboard = c.holds_aboard.ensures.0 c.if-not-holds_aboard.false; supported = c.in-None.ensures.supported; twenty = c.in-None.ensures.twenty; plugged = c.in-None.ensures.plugged };
    within = c.in-None.ensures.within;
    separated = c.in-None.ensures.separated;
  },
  λ x. refl,
)

pub returns-in-Some : goal.returns-in-Some
returns-in-Some c = (
  λ h. absurd (both_ways false refl h),
  λ x. absurd (breaks c.args.ship.now c.args.cargo.now c.args.plan.now c.in-Some.field-0 c.in-Some.ensures.is_fault (record { supported = x.stowed.supported; twenty = x.stowed.twenty; plugged = x.stowed.plugged; within = x.within; separated = x.separated })),
)
