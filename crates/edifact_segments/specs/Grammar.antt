-- The interchange grammar of ISO 9735, and the table of the faults, each as a relation between a whole
-- text and what it is read as.
use Rattle.std.specs.Prelude.{◌≡◌, ◌≢◌, ◌<◌, ℕ, ◌+◌, Bool, true, false, ◌&&◌, ◌||◌, ◌==◌, not, nat_lt, List, [], ◌∷◌, ◌++◌, length, ◌⊎◌}
use Rattle.edifact_segments.specs.Canonical.{canonical}
use Rattle.edifact_segments.specs.Characters.{Character, spelling, AreCharacters, is_control, elements_of, default_service}
use Rattle.edifact_segments.specs.declared.service.Service.{Service}
use Rattle.edifact_segments.specs.declared.segments.Segment.{Segment}
use Rattle.edifact_segments.specs.declared.faults.SegFault.{SegFault}
use Rattle.edifact_segments.specs.declared.faults.SegFault.TheVariants.{NoHeader, BadUna, Unterminated, ControlByte, BadTag, NoTrailer, Trailing, NoMemory}

-- ## Service characters

-- a printable ASCII character other than a letter or digit
abbrev pub is_mark : ℕ → Bool
is_mark b = (nat_lt 31 b && nat_lt b 48) || (nat_lt 57 b && nat_lt b 65) || (nat_lt 90 b && nat_lt b 97) || (nat_lt 122 b && nat_lt b 127)

-- Marks, of which no two are equal; only the release character may be a space.
abbrev pub are_marks : Service → Bool
are_marks s =
    is_mark s.component && is_mark s.element && is_mark s.release && is_mark s.terminator && not (s.component == 32) && not (s.element == 32) && not (s.terminator == 32)

abbrev pub are_apart : Service → Bool
are_apart s =
    not (s.component == s.element) && not (s.component == s.release) && not (s.component == s.terminator) && not (s.element == s.release) && not (s.element == s.terminator) && not (s.release == s.terminator)

abbrev pub IsService : Service → Type 0
IsService s = (are_marks s ≡ true) × (are_apart s ≡ true)

-- the letters UNA in front of a text
abbrev pub una : List ℕ → List ℕ
una text = 85 ∷ 78 ∷ 65 ∷ text

-- the six characters of UNA: the decimal and the reserved one are any
abbrev pub advice : Service → ℕ → ℕ → List ℕ
advice s decimal reserved = s.component ∷ s.element ∷ decimal ∷ s.release ∷ reserved ∷ s.terminator ∷ []

abbrev pub HasUna : List ℕ → Type 0
HasUna bytes = (more : List ℕ) × (bytes ≡ una more)

-- The bytes give these service characters, and then this text.
abbrev pub Advised : List ℕ → Service → List ℕ → Type 0
Advised bytes s text = IsService s × (decimal : ℕ) × (reserved : ℕ) × (bytes ≡ una (advice s decimal reserved ++ text))

abbrev pub Starts : List ℕ → Service → List ℕ → Type 0
Starts bytes s text = Advised bytes s text ⊎ ((HasUna bytes → ⊥) × (s ≡ default_service) × (bytes ≡ text))

-- ## Segments

-- CR or LF
abbrev pub is_gap_byte : ℕ → Bool
is_gap_byte b = b == 13 || b == 10

abbrev pub IsGap : List ℕ → Type 0
IsGap [] = Unit {0}
IsGap (b ∷ bs) = (is_gap_byte b ≡ true) × IsGap bs

abbrev pub is_capital : ℕ → Bool
is_capital b = nat_lt 64 b && nat_lt b 91

-- three capital letters
abbrev pub IsTag : List ℕ → Type 0
IsTag tag = (a : ℕ) × (b : ℕ) × (c : ℕ) × (tag ≡ a ∷ b ∷ c ∷ []) × (is_capital a ≡ true) × (is_capital b ≡ true) × (is_capital c ≡ true)

-- The elements, the tag's first, are those of this segment.
abbrev pub IsSegmentOf : List (List (List ℕ)) → Segment → Type 0
IsSegmentOf elements s = (rest : List (List (List ℕ))) × (elements ≡ (s.tag ∷ []) ∷ rest) × IsTag s.tag × (s.elements ≡ canonical rest)

-- The text begins with the characters of a complete segment, and goes on behind its terminator.
abbrev pub Completes : Service → List ℕ → List Character → List ℕ → Type 0
Completes service text cs next = (gap : List ℕ) × (text ≡ gap ++ (spelling service cs ++ service.terminator ∷ next)) × IsGap gap × AreCharacters service cs

-- The text begins with this segment.
abbrev pub TakesSegment : Service → List ℕ → Segment → List ℕ → Type 0
TakesSegment service text s next = (cs : List Character) × Completes service text cs next × IsSegmentOf (elements_of service cs) s

abbrev pub unb : List ℕ
unb = 85 ∷ 78 ∷ 66 ∷ []

abbrev pub unz : List ℕ
unz = 85 ∷ 78 ∷ 90 ∷ []

-- The text is these segments, none of which is UNZ, and then the rest.
abbrev pub Begins : Service → List ℕ → List Segment → List ℕ → Type 0
Begins service text [] rest = text ≡ rest
Begins service text (s ∷ segments) rest = (next : List ℕ) × TakesSegment service text s next × (s.tag ≢ unz) × Begins service next segments rest

-- the first of the segments is UNB
abbrev pub IsHeaded : List Segment → Type 0
IsHeaded [] = Unit {0}
IsHeaded (s ∷ segments) = s.tag ≡ unb

-- The bytes are these segments, headed by UNB and without UNZ, and then the rest.
abbrev pub Reaches : List ℕ → Service → List Segment → List ℕ → Type 0
Reaches bytes service before rest = (text : List ℕ) × Starts bytes service text × Begins service text before rest × IsHeaded before

-- the segments before UNZ, UNZ, and what stands behind it
abbrev pub Closes : List ℕ → List Segment → Segment → List ℕ → Type 0
Closes bytes before last next = (service : Service) × (rest : List ℕ) × Reaches bytes service before rest × TakesSegment service rest last next × (last.tag ≡ unz) × IsHeaded (before ++ last ∷ [])

-- ## The interchange

abbrev pub IsInterchange : List ℕ → List Segment → Type 0
IsInterchange bytes segments = (before : List Segment) × (last : Segment) × (next : List ℕ) × (segments ≡ before ++ last ∷ []) × Closes bytes before last next × IsGap next

-- ## The faults

-- the text of a segment whose terminator doesn't come
abbrev pub IsOpen : Service → List ℕ → Type 0
IsOpen service text = (cs : List Character) × AreCharacters service cs × ((text ≡ spelling service cs) ⊎ ((text ≡ spelling service cs ++ service.release ∷ []) × (service.release ≢ 32)))

abbrev pub HasNoTag : Service → List Character → Type 0
HasNoTag service cs = (s : Segment) → IsSegmentOf (elements_of service cs) s → ⊥

-- Places count from 0: the rest of n bytes begins at the length of all less n.
abbrev pub HasFault : List ℕ → SegFault → Type 0
HasFault bytes NoHeader = (service : Service) × (text : List ℕ) × Starts bytes service text
    × (IsGap text ⊎ ((s : Segment) × (next : List ℕ) × TakesSegment service text s next × (s.tag ≢ unb)))
HasFault bytes BadUna = HasUna bytes × ((service : Service) (text : List ℕ) → Starts bytes service text → ⊥)
HasFault bytes (Unterminated at) = (service : Service) × (before : List Segment) × (gap : List ℕ) × (left : List ℕ) × Reaches bytes service before (gap ++ left)
    × IsGap gap × IsOpen service left × (0 < length left) × (at + length left ≡ length bytes)
HasFault bytes (ControlByte at) = (service : Service) × (before : List Segment) × (gap : List ℕ) × (front : List ℕ) × (c : ℕ) × (more : List ℕ) × Reaches bytes service before (gap ++ (front ++ c ∷ more))
    × IsGap gap × IsOpen service front × (is_control c ≡ true) × (is_gap_byte c ≡ true → front ≢ []) × (at + length (c ∷ more) ≡ length bytes)
HasFault bytes (BadTag n) = (service : Service) × (before : List Segment) × (rest : List ℕ) × (cs : List Character) × (next : List ℕ) × Reaches bytes service before rest
    × Completes service rest cs next × HasNoTag service cs × (n ≡ length before + 1)
HasFault bytes (NoTrailer n) = (service : Service) × (before : List Segment) × (rest : List ℕ) × Reaches bytes service before rest
    × IsGap rest × (0 < n) × (n ≡ length before)
HasFault bytes (Trailing at) = (before : List Segment) × (last : Segment) × (gap : List ℕ) × (c : ℕ) × (more : List ℕ) × Closes bytes before last (gap ++ c ∷ more)
    × IsGap gap × (is_gap_byte c ≡ false) × (at + length (c ∷ more) ≡ length bytes)
HasFault bytes NoMemory = ⊥
