use Rattle.zero_one_model.proofs.model.Model.has_row.Given as goal

abbrev pub ghost-has_row : goal.ghost-has_row
ghost-has_row a = record { ship = a.ship.now; cargo = a.cargo.now }
