use Rattle.stowage_rules.proofs.PlansHold.{well_formed_from, alone_from}
use Rattle.stowage_rules.proofs.departures.is_well_formed.Goals as goal

pub returns-then-all_fit : goal.returns-then-all_fit
returns-then-all_fit c = (
  λ h. well_formed_from c.args.ship.now c.args.cargo.now c.args.plan.now c.requires (c.all_fit.ensures.0 c.if-all_fit.true) (c.all_stand_alone.ensures.0 h),
  λ x. c.all_stand_alone.ensures.1 (alone_from c.args.ship.now c.args.cargo.now c.args.plan.now x),
)
