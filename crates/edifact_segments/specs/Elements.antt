-- The elements of a segment: a list of elements, each a list of components, each a list of bytes.
use Rattle.std.specs.Prelude.{ℕ, List, [], slice_index_or}
use Rattle.edifact_segments.specs.declared.segments.Segment.{Segment}

-- the bytes of a component, both numbers from 0: none where the segment has no such component
abbrev pub component_at : List (List (List ℕ)) → ℕ → ℕ → List ℕ
component_at es i j = slice_index_or (slice_index_or es i []) j []

-- the segment of this tag and these elements
abbrev pub segment : List ℕ → List (List (List ℕ)) → Segment
segment tag elements = record { tag = tag; elements = elements }
