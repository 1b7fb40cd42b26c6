-- Segments that are read back as they are written.
use Rattle.std.specs.Prelude.{◌≡◌, ◌≢◌, ℕ, false, List, [], ◌∷◌}
use Rattle.edifact_segments.specs.Canonical.{canonical}
use Rattle.edifact_segments.specs.Characters.{is_control}
use Rattle.edifact_segments.specs.Grammar.{IsTag, unz}
use Rattle.edifact_segments.specs.declared.segments.Segment.{Segment}

-- no control byte: in a component, an element, a segment
abbrev pub IsPrintable : List ℕ → Type 0
IsPrintable [] = Unit {0}
IsPrintable (b ∷ bs) = (is_control b ≡ false) × IsPrintable bs

abbrev pub IsPrintableElement : List (List ℕ) → Type 0
IsPrintableElement [] = Unit {0}
IsPrintableElement (c ∷ cs) = IsPrintable c × IsPrintableElement cs

abbrev pub ArePrintable : List (List (List ℕ)) → Type 0
ArePrintable [] = Unit {0}
ArePrintable (e ∷ es) = IsPrintableElement e × ArePrintable es

-- in canonical form, with a tag and no control byte
abbrev pub IsWritable : Segment → Type 0
IsWritable s = IsTag s.tag × (canonical s.elements ≡ s.elements) × ArePrintable s.elements

-- such segments, none of which is UNZ
abbrev pub AreWritable : List Segment → Type 0
AreWritable [] = Unit {0}
AreWritable (s ∷ segments) = IsWritable s × (s.tag ≢ unz) × AreWritable segments
