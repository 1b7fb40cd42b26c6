use Rattle.std.proofs.Common.{Option, Some, inr, refl, subst}
use Rattle.stow_data.specs.Plans.{Plan}
use Rattle.stowage_rules.proofs.InRank.{breaks}
use Rattle.greedy_loader.specs.Calls.{Restows}
use Rattle.greedy_loader.proofs.departing.depart.Goals as goal

pub returns-in-Some-departure_fault-clause-rule : goal.returns-in-Some-departure_fault-clause-rule
returns-in-Some-departure_fault-clause-rule c = record {
  made = Some c.in-Some.plan;
  restows = subst (λ (z : Option Plan). Restows c.args.ship.now c.args.cargo.now c.args.call c.args.before.now z) c.in-Some.is c.in_ok-plan.ensures.restows;
  judged = inr (breaks c.args.ship.now c.args.cargo.now c.in-Some.plan c.in-Some-departure_fault.field-0 c.in-Some-departure_fault.ensures.is_fault, refl);
}
