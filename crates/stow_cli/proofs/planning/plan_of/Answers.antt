use Rattle.stow_cli.proofs.planning.plan_of.Goals as goal

pub build-requires : goal.build-requires
build-requires g c = record { arrival = c.requires.booked.settled.1.well_formed.each_place }
