use Rattle.std.proofs.Common.{List, subst}
use Rattle.stow_data.specs.Plans.{Plan}
use Rattle.plan_lifts.specs.Lifted.{LiftsFrom}
use Rattle.plan_lifts.proofs.LiftsHold.{costs_of, lifted_of, must_of}
use Rattle.plan_lifts.proofs.lifting.lifts.Goals as goal

pub returns-clause-cost : goal.returns-clause-cost
returns-clause-cost c = costs_of c.args.ship.now c.args.cargo.now c.arrival.result.now c.args.plans.now c.new-lists.result c.lift_from.new.lists c.in_ok-cost.cost c.obeys_rules.ensures c.obeys_rules-2.ensures c.requires.each_call c.requires.arrival c.arrival.ensures
    (subst (λ (ps : List Plan). LiftsFrom c.args.ship.now c.args.cargo.now 1 c.arrival.result.now ps c.new-lists.result c.lift_from.new.lists c.in_ok-cost.cost) c.as_slice.ensures c.in_ok-cost.ensures)

pub returns-clause-must : goal.returns-clause-must
returns-clause-must c = must_of c.args.ship.now c.args.cargo.now c.args.plans.now c.lift_from.new.lists
    (lifted_of c.args.ship.now c.args.cargo.now c.arrival.result.now c.args.plans.now c.new-lists.result c.lift_from.new.lists c.in_ok-cost.cost c.new-lists.ensures c.arrival.ensures
    (subst (λ (ps : List Plan). LiftsFrom c.args.ship.now c.args.cargo.now 1 c.arrival.result.now ps c.new-lists.result c.lift_from.new.lists c.in_ok-cost.cost) c.as_slice.ensures c.in_ok-cost.ensures))
