use Rattle.std.proofs.Common.{◌≡◌, [], length, slice_index_or, take}
use Rattle.edifact_segments.specs.Canonical.{trimmed}
use Rattle.edifact_segments.proofs.writing.kept_components.Given as goal

abbrev pub invariant-loop-component : goal.invariant-loop-component
invariant-loop-component l =
    l.kept ≡ length (trimmed (take l.component (slice_index_or l.elements l.element [])))
