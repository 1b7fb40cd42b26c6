use Rattle.zero_one_model.proofs.building.filed_rows.Given as goal

abbrev pub ghost-list_rows : goal.ghost-list_rows
ghost-list_rows a = record { ship = a.ship.now; cargo = a.cargo.now }
