use Rattle.voyage_files.proofs.Finding.{found_without, stops_without}
use Rattle.voyage_files.proofs.reading.read_inputs.Goals as goal

pub returns-clause-gives : goal.returns-clause-gives
returns-clause-gives g c = found_without c.read_inputs_at.result _ _ c.read_inputs_at.ensures.gives

pub returns-clause-failed : goal.returns-clause-failed
returns-clause-failed g c = stops_without c.read_inputs_at.result _ _ _ c.read_inputs_at.ensures.failed
