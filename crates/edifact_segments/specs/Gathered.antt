-- Segments whose elements stand in one list. No public clause cites this module.
use Rattle.std.specs.Prelude.{ℕ, ◌≤◌, List, [], ◌∷◌, map, slice_range, Result, Ok, Err}
use Rattle.edifact_segments.specs.Elements.{segment}
use Rattle.edifact_segments.specs.declared.faults.SegFault.{SegFault}
use Rattle.edifact_segments.specs.declared.gathered.Part.{Part}
use Rattle.edifact_segments.specs.declared.segments.Segment.{Segment}

-- the segment of a part of the elements
abbrev pub segment_of : List (List (List ℕ)) → Part → Segment
segment_of elements p = segment p.tag (slice_range elements p.from p.to)

abbrev pub segments_of : List (List (List ℕ)) → List Part → List Segment
segments_of elements parts = map (segment_of elements) parts

-- each part is one of so many elements
abbrev pub AreWithin : List Part → ℕ → Type 0
AreWithin [] n = Unit {0}
AreWithin (p ∷ ps) n = (p.from ≤ p.to) × (p.to ≤ n) × AreWithin ps n

-- a tag that is found and the place behind its segment, as the segment of these elements
abbrev pub with_elements : List (List (List ℕ)) → Result (List ℕ × ℕ) SegFault → Result (Segment × ℕ) SegFault
with_elements elements (Ok x) = Ok (segment x.0 elements, x.1)
with_elements elements (Err e) = Err e
