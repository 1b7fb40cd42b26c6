use Rattle.std.proofs.Common.{◌≡◌, ◌++◌, take}
use Rattle.edifact_segments.specs.Canonical.{canonical}
use Rattle.edifact_segments.specs.Written.{written_elements}
use Rattle.edifact_segments.proofs.writing.segment_text.Given as goal

abbrev pub invariant-loop-element : goal.invariant-loop-element
invariant-loop-element l =
    l.text ≡ l.segment.tag ++ written_elements (take l.element (canonical l.segment.elements))
