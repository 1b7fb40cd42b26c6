use Rattle.std.proofs.Common.{◌∙◌, ap, subst}
use Rattle.stow_data.specs.Ship.{Ship, places}
use Rattle.stow_data.specs.Profile.{IsShip}
use Rattle.stow_data.proofs.CellLemmas.{cell_said, cell_back}
use Rattle.stow_data.proofs.ships.Ship.place_of_number.Goals as goal

pub returns-clause-has : goal.returns-clause-has
returns-clause-has c = cell_said c.args.self.now c.self.inside.stacks c.self.inside.place_table c.self.inside.cell_table c.args.bay c.args.row c.args.tier c.copied.result (ap (λ (z : Ship). z.stacks) c.self.view_is) (c.self.invariant.place_table ∙ ap places c.self.view_is) (c.copied.ensures ∙ c.get.ensures.value) c.self.invariant.cell_table

pub returns-clause-back : goal.returns-clause-back
returns-clause-back c = cell_back c.args.self.now c.args.bay c.args.row c.args.tier c.copied.result (subst IsShip c.self.view_is c.self.invariant.rules) (returns-clause-has c)
