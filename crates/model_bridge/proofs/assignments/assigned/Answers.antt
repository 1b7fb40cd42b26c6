use Rattle.std.proofs.Common.{subst}
use Rattle.stow_data.specs.Ship.{Ship}
use Rattle.stow_data.specs.Shipment.{Cargo}
use Rattle.stowage_rules.specs.Departure.{HasArrival}
use Rattle.model_bridge.proofs.Begun.{if_ok}
use Rattle.model_bridge.proofs.Solved.{reaches, solved}
use Rattle.model_bridge.proofs.assignments.assigned.Goals as goal

pub begin_table-requires-clause-arrival : goal.begin_table-requires-clause-arrival
begin_table-requires-clause-arrival c = subst (λ (s : Ship). HasArrival s c.args.cargo.now) c.requires.ship (subst (λ (g : Cargo). HasArrival c.args.model.now.ship g) c.requires.cargo c.requires.problem.arrives)

pub begin_table-requires-clause-each_call : goal.begin_table-requires-clause-each_call
begin_table-requires-clause-each_call c = let l = c.requires.costs.is_legal in l.each_call

pub box_of_stays-full-requires : goal.box_of_stays-full-requires
box_of_stays-full-requires c = record {
  within = reaches c.args.model.now c.requires.problem c.args.ship.now c.args.cargo.now c.args.plans.now c.args.lifted.now.lists c.args.lifted.now.cost c.requires.ship c.requires.cargo c.requires.lists c.requires.costs
      c.args.kinds.now c.requires.kinds c.in_ok-table.table c.in_ok-table.ensures;
}

pub returns-clause-stays : goal.returns-clause-stays
returns-clause-stays c = if_ok _ _ c.box_of_stays-full.result (λ b is. (solved c.args.model.now c.requires.problem c.args.ship.now c.args.cargo.now c.args.plans.now c.args.lifted.now.lists c.args.lifted.now.cost c.requires.ship c.requires.cargo c.requires.lists c.requires.costs
    c.args.kinds.now c.requires.kinds c.in_ok-table.table c.in_ok-table.ensures b is).stays) c.box_of_stays-full.ensures

pub returns-clause-full : goal.returns-clause-full
returns-clause-full c = if_ok _ _ c.box_of_stays-full.result (λ b is. (solved c.args.model.now c.requires.problem c.args.ship.now c.args.cargo.now c.args.plans.now c.args.lifted.now.lists c.args.lifted.now.cost c.requires.ship c.requires.cargo c.requires.lists c.requires.costs
    c.args.kinds.now c.requires.kinds c.in_ok-table.table c.in_ok-table.ensures b is).is_full) c.box_of_stays-full.ensures

pub returns-clause-base_rows : goal.returns-clause-base_rows
returns-clause-base_rows c = if_ok _ _ c.box_of_stays-full.result (λ b is. (solved c.args.model.now c.requires.problem c.args.ship.now c.args.cargo.now c.args.plans.now c.args.lifted.now.lists c.args.lifted.now.cost c.requires.ship c.requires.cargo c.requires.lists c.requires.costs
    c.args.kinds.now c.requires.kinds c.in_ok-table.table c.in_ok-table.ensures b is).base_rows) c.box_of_stays-full.ensures

pub returns-clause-rows : goal.returns-clause-rows
returns-clause-rows c = if_ok _ _ c.box_of_stays-full.result (λ b is. (solved c.args.model.now c.requires.problem c.args.ship.now c.args.cargo.now c.args.plans.now c.args.lifted.now.lists c.args.lifted.now.cost c.requires.ship c.requires.cargo c.requires.lists c.requires.costs
    c.args.kinds.now c.requires.kinds c.in_ok-table.table c.in_ok-table.ensures b is).rows (c.crossing_rows_hold.ensures c.args.model.now c.requires.problem.arrives)) c.box_of_stays-full.ensures

pub returns-clause-cost : goal.returns-clause-cost
returns-clause-cost c = if_ok _ _ c.box_of_stays-full.result (λ b is. (solved c.args.model.now c.requires.problem c.args.ship.now c.args.cargo.now c.args.plans.now c.args.lifted.now.lists c.args.lifted.now.cost c.requires.ship c.requires.cargo c.requires.lists c.requires.costs
    c.args.kinds.now c.requires.kinds c.in_ok-table.table c.in_ok-table.ensures b is).cost) c.box_of_stays-full.ensures
