use Rattle.edifact_segments.proofs.Determined.{segment-determined}
use Rattle.edifact_segments.proofs.writing.written_determines.Goals as goal

pub returns : goal.returns
returns c = λ s t l l' e. segment-determined s.tag t.tag s.elements t.elements l l' e
