use Rattle.zero_one_model.proofs.building.listed_variables.Given as goal

abbrev pub ghost-list_variables : goal.ghost-list_variables
ghost-list_variables a = record { ship = a.ship.now; cargo = a.cargo.now }
