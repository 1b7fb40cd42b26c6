-- The segments that a bay plan message is read from (SMDG BAPLIE 2.2).
use Rattle.std.specs.Prelude.{ℕ, ◌-◌, Bool, true, false, ◌&&◌, ◌||◌, ◌==◌, not, nat_eq, List, [], ◌∷◌, length, codes, slice_index_or}
use Rattle.std.specs.Cmp.Lexicographic.{pointwise}
use Rattle.edifact_segments.specs.Elements.{component_at}
use Rattle.edifact_segments.specs.declared.segments.Segment.{Segment}

-- the components of an element; elements count from 1 behind the tag
abbrev pub element : Segment → ℕ → List (List ℕ)
element s n = slice_index_or s.elements (n - 1) []

-- a component of an element, both from 1; absent ones are empty
abbrev pub component : Segment → ℕ → ℕ → List ℕ
component s n k = component_at s.elements (n - 1) (k - 1)

abbrev pub same_text : List ℕ → List ℕ → Bool
same_text a b = pointwise nat_eq a b

abbrev pub same_element : List (List ℕ) → List (List ℕ) → Bool
same_element a b = pointwise same_text a b

abbrev pub has_tag : Segment → List ℕ → Bool
has_tag s tag = same_text s.tag tag

-- the whole element is this one text
abbrev pub is_one : List (List ℕ) → List ℕ → Bool
is_one e text = (length e == 1) && same_text (slice_index_or e 0 []) text

-- a segment with this tag and this code as element 1
abbrev pub is_coded : Segment → List ℕ → List ℕ → Bool
is_coded s tag code = has_tag s tag && is_one (element s 1) code

abbrev pub is_empty_text : List ℕ → Bool
is_empty_text [] = true
is_empty_text (b ∷ text) = false

-- the message type BAPLIE:D:95B:UN:SMDG22
abbrev pub is_type : List (List ℕ) → Bool
is_type e =
    (length e == 5) && same_text (slice_index_or e 0 []) (codes "BAPLIE") && same_text (slice_index_or e 1 []) (codes "D") && same_text (slice_index_or e 2 []) (codes "95B") && same_text (slice_index_or e 3 []) (codes "UN") && same_text (slice_index_or e 4 []) (codes "SMDG22")

-- UNH of the message type BAPLIE:D:95B:UN:SMDG22
abbrev pub is_title : Segment → Bool
is_title s = has_tag s (codes "UNH") && is_type (element s 2)

abbrev pub is_unt : Segment → Bool
is_unt s = has_tag s (codes "UNT")

abbrev pub is_unz : Segment → Bool
is_unz s = has_tag s (codes "UNZ")

-- what ends the last cell group: UNT, or UNZ where UNT is missing
abbrev pub closes : Segment → Bool
closes s = is_unt s || is_unz s

-- LOC+147, which opens a cell group
abbrev pub opens : Segment → Bool
opens s = is_coded s (codes "LOC") (codes "147")

-- LOC+11 with a port of discharge
abbrev pub names_port : Segment → Bool
names_port s = is_coded s (codes "LOC") (codes "11") && not (is_empty_text (component s 2 1))

-- EQD+CN, a container
abbrev pub is_container : Segment → Bool
is_container s = is_coded s (codes "EQD") (codes "CN")

-- EQD+BB, breakbulk
abbrev pub is_breakbulk : Segment → Bool
is_breakbulk s = is_coded s (codes "EQD") (codes "BB")

-- MEA+VGM, a verified gross mass
abbrev pub is_verified : Segment → Bool
is_verified s = is_coded s (codes "MEA") (codes "VGM")

-- MEA+WT, another weight
abbrev pub is_unverified : Segment → Bool
is_unverified s = is_coded s (codes "MEA") (codes "WT")

abbrev pub weighs : Segment → Bool
weighs s = is_verified s || is_unverified s

-- TMP+2, a reefer's temperature
abbrev pub is_cooled : Segment → Bool
is_cooled s = is_coded s (codes "TMP") (codes "2")

-- DGS, dangerous goods
abbrev pub is_danger : Segment → Bool
is_danger s = has_tag s (codes "DGS")
