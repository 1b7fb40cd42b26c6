use Rattle.std.proofs.Common.{subst}
use Rattle.plan_lifts.specs.declared.lifting.LiftsFault.{LiftsFault}
use Rattle.plan_lifts.specs.Lifted.{IsLiftsFault}
use Rattle.plan_search.proofs.Certifying.{legal_at, departures_formed, never_illegal}
use Rattle.plan_search.proofs.loaded.cost_of.Goals as goal

pub lifts-requires-clause-formed : goal.lifts-requires-clause-formed
lifts-requires-clause-formed c = departures_formed c.args.ship.now c.args.cargo.now 1 c.args.plans.now (legal_at c.args.model.now c.args.ship.now c.args.cargo.now c.args.plans.now c.requires.ship c.requires.cargo c.requires.plans)

pub unreachable-requires : goal.unreachable-requires
unreachable-requires c =
    never_illegal c.args.ship.now c.args.cargo.now 1 c.args.plans.now _ _ (legal_at c.args.model.now c.args.ship.now c.args.cargo.now c.args.plans.now c.requires.ship c.requires.cargo c.requires.plans)
    (subst (λ (f : LiftsFault). IsLiftsFault c.args.ship.now c.args.cargo.now c.args.plans.now 1 f) c.in-Err-Illegal.field-0-is c.in-Err-Illegal.ensures.lists)
