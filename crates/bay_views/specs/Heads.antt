-- The head of a picture: what the message tells of its voyage (SMDG BAPLIE 2.2), and the totals.
use Rattle.std.specs.Prelude.{ℕ, Bool, true, false, ◌&&◌, codes, List, [], ◌++◌, find, count_by, Option, Some, None, if◌then◌else◌}
use Rattle.std.specs.Fmt.{decimal}
use Rattle.std.specs.List.{sum_by}
use Rattle.edifact_segments.specs.declared.segments.Segment.{Segment}
use Rattle.baplie.specs.Segments.{component, has_tag, is_coded, same_text, is_empty_text}
use Rattle.baplie.specs.declared.parts.Message.{Message}
use Rattle.baplie.specs.declared.parts.Facts.{Facts}
use Rattle.baplie.specs.declared.parts.CellGroup.{CellGroup}
use Rattle.stow_data.specs.declared.geometry.Length.{Length}
use Rattle.stow_data.specs.declared.geometry.Length.TheVariants.{Twenty, Forty}
use Rattle.stow_report.specs.Listings.{holds, kilograms}
use Rattle.bay_views.specs.declared.character_sets.CharacterSet.{CharacterSet}
use Rattle.bay_views.specs.Marks.{raw, label, whole, short, tonnes}

-- ## What the message tells

abbrev pub text_of : Option Segment → ℕ → ℕ → List ℕ
text_of None n k = []
text_of (Some s) n k = component s n k

-- a component, both numbers from 1, of the first segment of the head with this tag and this code; nothing where there is none
abbrev pub said : List Segment → List ℕ → List ℕ → ℕ → ℕ → List ℕ
said head tag code n k = text_of (find (λ s. is_coded s tag code) head) n k

-- the number of the bay plan, in BGM
abbrev pub number_in : List Segment → List ℕ
number_in head = text_of (find (λ s. has_tag s (codes "BGM")) head) 2 1

abbrev pub vessel : List Segment → List ℕ
vessel head = said head (codes "TDT") (codes "20") 8 4

abbrev pub voyage : List Segment → List ℕ
voyage head = said head (codes "TDT") (codes "20") 2 1

-- the port that the ship leaves
abbrev pub port : List Segment → List ℕ
port head = said head (codes "LOC") (codes "5") 2 1

abbrev pub next_port : List Segment → List ℕ
next_port head = said head (codes "LOC") (codes "61") 2 1

-- of one vessel and one voyage
abbrev pub same_voyage : Message → Message → Bool
same_voyage a b = same_text (vessel a.head) (vessel b.head) && same_text (voyage a.head) (voyage b.head)

-- ## Its line

-- a word and a name
unfoldable pub named : CharacterSet → List ℕ → List ℕ → List ℕ
named set word text = raw (codes "<tspan dx='10'>") ++ whole set 24 text ++ raw word ++ short set 24 text ++ raw (codes "</tspan>")

-- a word and what the message tells, where it tells it
unfoldable pub part : CharacterSet → List ℕ → List ℕ → List ℕ
part set word text = if is_empty_text text then [] else named set word text

abbrev pub call_line : CharacterSet → List Segment → List ℕ
call_line set head =
    label 4 22 (codes "h") ++ part set [] (vessel head) ++ part set (codes "Voyage ") (voyage head) ++ part set (codes "From ") (port head) ++ part set (codes "to ") (next_port head) ++ part set (codes "Bay plan ") (number_in head) ++ raw (codes "</text>\n")

-- ## Totals

abbrev pub same_length : Length → Length → Bool
same_length Twenty Twenty = true
same_length Forty Forty = true
same_length _ _ = false

abbrev pub is_of : Length → Option Facts → Bool
is_of long None = false
is_of long (Some f) = same_length f.long long

abbrev pub kg_of : Length → Option Facts → ℕ
kg_of long None = 0
kg_of long (Some f) = if same_length f.long long then f.kg else 0

abbrev pub containers_of : Length → List CellGroup → ℕ
containers_of long groups = count_by (λ g. is_of long g.facts) groups

abbrev pub kilograms_of : Length → List CellGroup → ℕ
kilograms_of long groups = sum_by (λ g. kg_of long g.facts) groups

-- containers and their tonnes
unfoldable pub amount : ℕ → ℕ → List ℕ
amount containers kg = decimal containers ++ raw (codes " containers, ") ++ tonnes kg ++ raw (codes " t")

unfoldable pub length_amount : List ℕ → Length → List CellGroup → List ℕ
length_amount word long groups = raw word ++ amount (containers_of long groups) (kilograms_of long groups)

-- how many containers and tonnes there are, and of each length
abbrev pub total_line : List CellGroup → List ℕ
total_line groups =
    label 14 42 (codes "l") ++ amount (count_by holds groups) (sum_by kilograms groups) ++ length_amount (codes "; 20 foot: ") Twenty groups ++ length_amount (codes "; 40 foot: ") Forty groups ++ raw (codes "</text>\n")

unfoldable pub heading : CharacterSet → List Segment → List CellGroup → List ℕ
heading set head groups = call_line set head ++ total_line groups
