use Rattle.voyage_files.specs.Named.{names_of}
use Rattle.voyage_files.proofs.Finding.{inputs_found}
use Rattle.voyage_files.proofs.reading.read_inputs_at.Goals as goal

pub returns-in-Ok-Yes-clause-gives : goal.returns-in-Ok-Yes-clause-gives
returns-in-Ok-Yes-clause-gives g c = inputs_found c.voyage_at.result (names_of c.args.inputs) c.args.call _ _ _ _ _ _ _
    c.in_ok-ship.ensures.gives c.in-Yes.is c.in_ok-ship.ensures.stays c.in-Ok-Yes.ensures.gives c.in-Ok-Yes.field-0-is c.bookings_under.ensures.stays c.voyage_at.ensures.gives
