use Rattle.crossing_pricing.proofs.pairs.part_of.Given as goal

abbrev pub ghost-right_side : goal.ghost-right_side
ghost-right_side a = record { ship = a.ship.now; cargo = a.cargo.now }
