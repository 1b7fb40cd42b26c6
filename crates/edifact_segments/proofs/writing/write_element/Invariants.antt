use Rattle.std.proofs.Common.{◌≡◌, [], ◌++◌, slice_index_or, take}
use Rattle.edifact_segments.specs.Canonical.{trimmed}
use Rattle.edifact_segments.specs.Written.{written_element}
use Rattle.edifact_segments.proofs.writing.write_element.Given as goal

abbrev pub invariant-loop-component : goal.invariant-loop-component
invariant-loop-component l =
    l.out ≡ l.fn.out ++ written_element (take l.component (trimmed (slice_index_or l.elements l.element [])))
