use Rattle.arrival_plan.proofs.CellLaws.{place_told, told_inside}
use Rattle.arrival_plan.proofs.cells.place_of.Goals as goal

pub returns-clause-is : goal.returns-clause-is
returns-clause-is c = place_told c.args.ship.now (c.args.group.now.bay, c.args.group.now.row, c.args.group.now.tier) c.place_of_number.result c.place_of_number.ensures.has c.place_of_number.ensures.back

pub returns-clause-inside : goal.returns-clause-inside
returns-clause-inside c = told_inside c.args.ship.now (c.args.group.now.bay, c.args.group.now.row, c.args.group.now.tier) c.place_of_number.result c.place_of_number.ensures.has
