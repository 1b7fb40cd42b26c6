use Rattle.std.proofs.Common.{length}
use Rattle.edifact_segments.proofs.GatheredLemmas.{within-at}
use Rattle.edifact_segments.proofs.gathered.append_parts.Goals as goal

pub part-requires-clause-ordered : goal.part-requires-clause-ordered
part-requires-clause-ordered c =
    (within-at c.args.parts.now (length c.args.elements.now.value) c.loop-part.part-index _ c.requires c.loop-part-test.true).0

pub part-requires-clause-within : goal.part-requires-clause-within
part-requires-clause-within c =
    (within-at c.args.parts.now (length c.args.elements.now.value) c.loop-part.part-index _ c.requires c.loop-part-test.true).1
