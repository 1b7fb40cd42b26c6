use Rattle.edifact_segments.proofs.OneReading.{one_interchange, one_fault, never_both}
use Rattle.edifact_segments.proofs.reading.one_reading.Goals as goal

pub returns-clause-segments : goal.returns-clause-segments
returns-clause-segments c = one_interchange

pub returns-clause-fault : goal.returns-clause-fault
returns-clause-fault c = one_fault

pub returns-clause-apart : goal.returns-clause-apart
returns-clause-apart c = never_both
