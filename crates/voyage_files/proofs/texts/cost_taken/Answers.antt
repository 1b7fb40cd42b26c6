use Rattle.voyage_files.proofs.ReadTexts.{legal_of}
use Rattle.voyage_files.proofs.texts.cost_taken.Goals as goal

pub returns-in-Ok : goal.returns-in-Ok
returns-in-Ok c = legal_of c.args.ship.now c.args.cargo.now c.args.texts.now c.in-Ok.set c.in-Ok.ensures
