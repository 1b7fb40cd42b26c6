use Rattle.zero_one_model.proofs.building.built_counts.Given as goal

abbrev pub ghost-count_rows : goal.ghost-count_rows
ghost-count_rows a = record { ship = a.ship.now; cargo = a.cargo.now }
