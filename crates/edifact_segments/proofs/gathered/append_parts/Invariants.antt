use Rattle.std.proofs.Common.{◌≡◌, ◌++◌, take}
use Rattle.edifact_segments.specs.Gathered.{segments_of}
use Rattle.edifact_segments.proofs.gathered.append_parts.Given as goal

abbrev pub invariant-loop-part : goal.invariant-loop-part
invariant-loop-part l = l.segments ≡ l.fn.segments ++ segments_of l.elements.value (take l.part-index l.parts)
