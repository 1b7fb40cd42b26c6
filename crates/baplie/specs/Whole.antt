-- The text of a bay plan message (ISO 9735, SMDG BAPLIE 2.2): UNB, UNH, the head, the cell groups, UNT and UNZ.
use Rattle.std.specs.Prelude.{◌≡◌, ℕ, ◌+◌, codes, List, [], ◌∷◌, ◌++◌, length, All}
use Rattle.std.specs.Fmt.{decimal}
use Rattle.std.specs.List.{flat_map}
use Rattle.edifact_segments.specs.Canonical.{canonical}
use Rattle.edifact_segments.specs.Grammar.{unb}
use Rattle.edifact_segments.specs.ReadBack.{IsWritable}
use Rattle.edifact_segments.specs.declared.segments.Segment.{Segment}
use Rattle.baplie.specs.declared.parts.Message.{Message}
use Rattle.baplie.specs.Messages.{IsMessage}
use Rattle.baplie.specs.Segments.{element}

-- a segment that repeats a reference behind a count, in canonical form
abbrev pub trailer : List ℕ → ℕ → List (List ℕ) → Segment
trailer tag count reference = record { tag = tag; elements = canonical ((decimal count ∷ []) ∷ reference ∷ []) }

-- the segments of the head and of the groups
abbrev pub content : Message → List Segment
content m = m.head ++ flat_map (λ g. g.segments) m.groups

-- UNT: the number of segments from UNH to UNT, and the reference of UNH
abbrev pub unt : Message → Segment
unt m = trailer (codes "UNT") (length (content m) + 2) (element m.title 1)

-- UNZ: one message, and the reference of UNB
abbrev pub unz : Message → Segment
unz m = trailer (codes "UNZ") 1 (element m.service 5)

-- the segments of the text, from UNB to UNZ
abbrev pub segments_of : Message → List Segment
segments_of m = m.service ∷ m.title ∷ (content m ++ unt m ∷ unz m ∷ [])

-- A message that can be written: it begins with UNB, its segments are in canonical form with tags and
-- without control bytes, and the rules of bay plans give it, without a fault, for the segments of its text.
pub record IsWhole (m : Message) : Type 0 where
  pub headed : m.service.tag ≡ unb
  pub writable : All IsWritable (m.service ∷ m.title ∷ content m)
  pub read : IsMessage (segments_of m) m
