use Rattle.edifact_segments.proofs.EachText.{read_each}
use Rattle.edifact_segments.proofs.reading.each_text.Goals as goal

pub returns : goal.returns
returns c = read_each
