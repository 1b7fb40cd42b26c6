-- What a segment is known by while it is read. No public clause cites this module.
use Rattle.std.specs.Prelude.{◌≡◌, ◌<◌, ◌≤◌, ℕ, ◌+◌, ◌-◌, true, false, List, [], ◌∷◌, ◌++◌, length, drop, replicate, Option, Some, None, Result, Ok, Err, slice_index_or}
use Rattle.edifact_segments.specs.Canonical.{canonical}
use Rattle.edifact_segments.specs.Characters.{Character, AreCharacters, is_control, spelling, elements_of}
use Rattle.edifact_segments.specs.Grammar.{IsTag, IsSegmentOf, IsOpen, HasNoTag}
use Rattle.edifact_segments.specs.Pieces.{on_last}
use Rattle.edifact_segments.specs.Scanning.{Complete, Broken, Unended, front}
use Rattle.edifact_segments.specs.declared.faults.SegFault.{SegFault}
use Rattle.edifact_segments.specs.declared.faults.SegFault.TheVariants.{NoHeader, BadUna, Unterminated, ControlByte, BadTag, NoTrailer, Trailing, NoMemory}
use Rattle.edifact_segments.specs.declared.draft.Draft.{Draft}
use Rattle.edifact_segments.specs.declared.segments.Segment.{Segment}
use Rattle.edifact_segments.specs.declared.service.Service.{Service}

-- the tag of the first element, if it is one
abbrev pub IsTagOf : Option (List ℕ) → List (List ℕ) → Type 0
IsTagOf (Some tag) first = (first ≡ tag ∷ []) × IsTag tag
IsTagOf None first = (tag : List ℕ) → first ≡ tag ∷ [] → IsTag tag → ⊥

-- the tag of the elements that are read
abbrev pub IsTagKept : Option (List ℕ) → List (List (List ℕ)) → Type 0
IsTagKept tag [] = tag ≡ None
IsTagKept tag (first ∷ closed) = IsTagOf tag first

-- the tag, once this element is read too
abbrev pub IsTagNext : Option (List ℕ) → List (List (List ℕ)) → List (List ℕ) → Type 0
IsTagNext tag [] now = IsTagOf tag now
IsTagNext tag (first ∷ closed) now = IsTagOf tag first

-- the canonical elements behind the tag's, and the components of the next
abbrev pub AreKept : List (List (List ℕ)) → List (List (List ℕ)) → List (List ℕ) → Type 0
AreKept elements [] now = elements ≡ []
AreKept elements (first ∷ closed) now = elements ≡ canonical (closed ++ now ∷ [])

pub record IsDraft (d : Draft) (closed : List (List (List ℕ))) (now : List (List ℕ)) : Type 0 where
  pub element : d.element ≡ length closed
  pub component : d.component ≡ length now
  pub tag : IsTagKept d.tag closed
  pub elements : AreKept d.elements closed now

-- The draft holds what these characters stand for, the last component open.
abbrev pub Drafts : Service → Draft → List Character → Type 0
Drafts s d cs = (closed : List (List (List ℕ))) × (now : List (List ℕ)) × IsDraft d closed now × (elements_of s cs ≡ closed ++ (now ++ d.text.items ∷ []) ∷ [])

-- The same, where these bytes of the last component aren't kept yet.
abbrev pub DraftsWith : Service → Draft → List Character → List ℕ → Type 0
DraftsWith s d cs run = (closed : List (List (List ℕ))) × (now : List (List ℕ)) × IsDraft d closed now × (elements_of s cs ≡ closed ++ (now ++ (d.text.items ++ run) ∷ []) ∷ [])

-- The draft holds what these characters stand for, all of them.
abbrev pub Holds : Service → Draft → List Character → Type 0
Holds s d cs = (closed : List (List (List ℕ))) × IsDraft d closed [] × (elements_of s cs ≡ closed)

-- so many elements, those that lack being empty
abbrev pub padded : {A : Type 0} → List (List A) → ℕ → List (List A)
padded es n = es ++ replicate (n - length es) []

-- the elements with a component put behind so many components of the element with this number, from 1
abbrev pub placed : List (List (List ℕ)) → ℕ → ℕ → List ℕ → List (List (List ℕ))
placed es n k text =
    on_last (λ e. e ++ text ∷ []) (on_last (λ e. e ++ replicate (k - length (slice_index_or (padded es n) (n - 1) [])) []) (padded es n))

-- What the reader of a segment answers for the bytes from a place on, and what its draft then holds: the
-- place behind the terminator, or the fault.
abbrev pub Reads : Service → List ℕ → ℕ → Draft → Result ℕ SegFault → Type 0
Reads s bytes from d (Ok next) = (cs : List Character) × (front s false (drop from bytes) ≡ Complete cs (drop next bytes)) × Holds s d cs × (from < next) × (next ≤ length bytes)
Reads s bytes from d (Err (Unterminated at)) = (front s false (drop from bytes) ≡ Unended) × (at ≡ from)
Reads s bytes from d (Err (ControlByte at)) = (front s false (drop from bytes) ≡ Broken (drop at bytes)) × (at < length bytes)
Reads s bytes from d (Err NoMemory) = Unit {0}
Reads s bytes from d (Err NoHeader) = ⊥
Reads s bytes from d (Err BadUna) = ⊥
Reads s bytes from d (Err (BadTag n)) = ⊥
Reads s bytes from d (Err (NoTrailer n)) = ⊥
Reads s bytes from d (Err (Trailing at)) = ⊥

-- What the reader of a segment with its tag answers for the bytes from a place on, where no gap is.
abbrev pub Finds : Service → List ℕ → ℕ → ℕ → Result (Segment × ℕ) SegFault → Type 0
Finds s bytes from number (Ok x) = (cs : List Character) × (drop from bytes ≡ spelling s cs ++ s.terminator ∷ drop x.1 bytes) × AreCharacters s cs × IsSegmentOf (elements_of s cs) x.0 × (from < x.1) × (x.1 ≤ length bytes)
Finds s bytes from number (Err (Unterminated at)) = IsOpen s (drop from bytes) × (at ≡ from)
Finds s bytes from number (Err (ControlByte at)) = (body : List ℕ) × (c : ℕ) × (more : List ℕ) × (drop from bytes ≡ body ++ c ∷ more) × IsOpen s body × (is_control c ≡ true) × (at + length (c ∷ more) ≡ length bytes)
Finds s bytes from number (Err (BadTag n)) = (cs : List Character) × (next : List ℕ) × (drop from bytes ≡ spelling s cs ++ s.terminator ∷ next) × AreCharacters s cs × HasNoTag s cs × (n ≡ number)
Finds s bytes from number (Err NoMemory) = Unit {0}
Finds s bytes from number (Err NoHeader) = ⊥
Finds s bytes from number (Err BadUna) = ⊥
Finds s bytes from number (Err (NoTrailer n)) = ⊥
Finds s bytes from number (Err (Trailing at)) = ⊥
