-- The segments of a departure file (ISO 9735, SMDG BAPLIE 2.2), each in the layout that stands before it.
use Rattle.std.specs.Prelude.{ℕ, ℤ, ◌/◌, ◌==◌, Bool, if◌then◌else◌, codes, List, [], ◌∷◌, ◌++◌, take, drop, Option, Some, None}
use Rattle.std.specs.Fmt.{decimal, signed_decimal}
use Rattle.edifact_segments.specs.declared.segments.Segment.{Segment}
use Rattle.stow_data.specs.Digits.{digit}
use Rattle.baplie.specs.Texts.{cell_digits}
use Rattle.bookings.specs.declared.shipment.Bookings.{Bookings}

abbrev pub segment : List ℕ → List (List (List ℕ)) → Segment
segment tag elements = record { tag = tag; elements = elements }

-- an element of one component
abbrev pub one : List ℕ → List (List ℕ)
one text = text ∷ []

-- a port, as in LOC
abbrev pub port_element : List ℕ → List (List ℕ)
port_element port = port ∷ codes "139" ∷ codes "6" ∷ []

-- the syntax and the parties of an interchange
abbrev pub parties : Bookings → List (List (List ℕ))
parties b = (codes "UNOA" ∷ codes "2" ∷ []) ∷ one b.sender ∷ one b.recipient ∷ []

-- UNB+UNOA:2+sender+recipient+YYMMDD:HHMM+call
unfoldable pub unb : Bookings → ℕ → Segment
unb b call = segment (codes "UNB") (parties b ++ (take 6 b.date ∷ drop 6 b.date ∷ []) ∷ one (decimal call) ∷ [])

-- UNH+1+BAPLIE:D:95B:UN:SMDG22
unfoldable pub unh : Segment
unh = segment (codes "UNH") (one (codes "1") ∷ (codes "BAPLIE" ∷ codes "D" ∷ codes "95B" ∷ codes "UN" ∷ codes "SMDG22" ∷ []) ∷ [])

-- BGM++call+9
unfoldable pub bgm : ℕ → Segment
bgm call = segment (codes "BGM") ([] ∷ one (decimal call) ∷ one (codes "9") ∷ [])

-- DTM+137:date:201, with the qualifier 137 or 133
unfoldable pub dtm : List ℕ → List ℕ → Segment
dtm qualifier date = segment (codes "DTM") ((qualifier ∷ date ∷ codes "201" ∷ []) ∷ [])

-- TDT+20+voyage++++++:::vessel
unfoldable pub tdt : List ℕ → List ℕ → Segment
tdt voyage vessel = segment (codes "TDT") (one (codes "20") ∷ one voyage ∷ [] ∷ [] ∷ [] ∷ [] ∷ [] ∷ ([] ∷ [] ∷ [] ∷ vessel ∷ []) ∷ [])

-- LOC+5+port:139:6, with the qualifier 5, 61, 9 or 11
unfoldable pub loc : List ℕ → List ℕ → Segment
loc qualifier port = segment (codes "LOC") (one qualifier ∷ port_element port ∷ [])

-- a cell's bay, row and tier number
abbrev pub cell_text : ℕ × ℕ × ℕ → List ℕ
cell_text cell = cell_digits cell.0 cell.1 cell.2

-- LOC+147+cell::5
unfoldable pub cell_segment : ℕ × ℕ × ℕ → Segment
cell_segment cell = segment (codes "LOC") (one (codes "147") ∷ (cell_text cell ∷ [] ∷ codes "5" ∷ []) ∷ [])

-- a verified gross mass, or another weight
abbrev pub weight_code : Bool → List ℕ
weight_code vgm = if vgm then codes "VGM" else codes "WT"

-- MEA+VGM++KGM:kg, or MEA+WT++KGM:kg
unfoldable pub mea : Bool → ℕ → Segment
mea vgm kg = segment (codes "MEA") (one (weight_code vgm) ∷ [] ∷ (codes "KGM" ∷ decimal kg ∷ []) ∷ [])

-- TMP+2+temperature:CEL, in degrees Celsius
unfoldable pub tmp : ℤ → Segment
tmp temperature = segment (codes "TMP") (one (codes "2") ∷ (signed_decimal temperature ∷ codes "CEL" ∷ []) ∷ [])

-- a reefer alone has a temperature
abbrev pub temperature_segments : Option ℤ → List Segment
temperature_segments None = []
temperature_segments (Some temperature) = tmp temperature ∷ []

-- RFF+BM:1
unfoldable pub rff : Segment
rff = segment (codes "RFF") ((codes "BM" ∷ codes "1" ∷ []) ∷ [])

-- empty, or full
abbrev pub fullness : Bool → List ℕ
fullness empty = if empty then codes "4" else codes "5"

-- EQD+CN+id+type+++4 where the container is empty, EQD+CN+id+type+++5 where it is full
unfoldable pub eqd : List ℕ → List ℕ → Bool → Segment
eqd id iso empty = segment (codes "EQD") (one (codes "CN") ∷ one id ∷ one iso ∷ [] ∷ [] ∷ one (fullness empty) ∷ [])

-- the number of dangerous goods in four digits; none where it is 0
abbrev pub goods_number : ℕ → List (List (List ℕ))
goods_number unno = if unno == 0 then [] else one (digit (unno / 1000) ∷ digit (unno / 100) ∷ digit (unno / 10) ∷ digit unno ∷ []) ∷ []

-- DGS+IMD+class+unno, or DGS+IMD+class
unfoldable pub dgs : List ℕ → ℕ → Segment
dgs class unno = segment (codes "DGS") (one (codes "IMD") ∷ one class ∷ goods_number unno)

-- dangerous goods alone have a class
abbrev pub goods_segments : Option (List ℕ) → ℕ → List Segment
goods_segments None unno = []
goods_segments (Some class) unno = dgs class unno ∷ []
