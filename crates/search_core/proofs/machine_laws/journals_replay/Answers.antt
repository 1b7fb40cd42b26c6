use Rattle.search_core.proofs.FullBoxes.{offers_solve}
use Rattle.search_core.proofs.Replay.{replayed}
use Rattle.search_core.proofs.machine_laws.journals_replay.Goals as goal

pub returns : goal.returns
returns g c = λ same p base solves costs word start budget entries left t whole gathers settled offer few full.
    replayed same p base word (offers_solve same p base solves costs) entries left t start budget whole gathers settled offer few full
