use Rattle.edifact_segments.proofs.ReadBackLemmas.{reads_back}
use Rattle.edifact_segments.proofs.reading.reads_back.Goals as goal

pub returns : goal.returns
returns c = reads_back
