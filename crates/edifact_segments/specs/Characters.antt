-- The characters of a segment (ISO 9735): bytes that stand as they are, some of which separate, and
-- released ones, which stand for themselves.
use Rattle.std.specs.Prelude.{◌≡◌, ℕ, Bool, false, ◌&&◌, ◌||◌, ◌==◌, not, nat_lt, List, [], ◌∷◌, if◌then◌else◌}
use Rattle.std.specs.List.{flat_map}
use Rattle.edifact_segments.specs.declared.service.Service.{Service}

pub data Character : Type 0 where
  Plain : ℕ → Character
  Released : ℕ → Character

-- a byte that no segment has
abbrev pub is_control : ℕ → Bool
is_control b = nat_lt b 32 || b == 127

-- a space as release character means that there is none
abbrev pub is_release : Service → ℕ → Bool
is_release service b = b == service.release && not (b == 32)

abbrev pub spelled : Service → Character → List ℕ
spelled service (Plain b) = b ∷ []
spelled service (Released b) = service.release ∷ b ∷ []

-- the bytes that spell these characters
abbrev pub spelling : Service → List Character → List ℕ
spelling service cs = flat_map (spelled service) cs

-- characters that a segment may have: no control byte, and each release character and terminator is released
abbrev pub IsCharacter : Service → Character → Type 0
IsCharacter service (Plain b) = (is_control b ≡ false) × (is_release service b ≡ false) × ((b == service.terminator) ≡ false)
IsCharacter service (Released b) = (is_control b ≡ false) × ((service.release == 32) ≡ false)

abbrev pub AreCharacters : Service → List Character → Type 0
AreCharacters service [] = Unit {0}
AreCharacters service (c ∷ cs) = IsCharacter service c × AreCharacters service cs

-- a byte in front of the first component of the first element
abbrev pub with_byte : ℕ → List (List (List ℕ)) → List (List (List ℕ))
with_byte b ((t ∷ ts) ∷ es) = ((b ∷ t) ∷ ts) ∷ es
with_byte b es = es

-- an empty component in front of the first element's
abbrev pub with_component : List (List (List ℕ)) → List (List (List ℕ))
with_component (e ∷ es) = ([] ∷ e) ∷ es
with_component [] = []

-- what a character does in front of what the characters behind it stand for
abbrev pub in_front_of : Service → Character → List (List (List ℕ)) → List (List (List ℕ))
in_front_of service (Plain b) es =
    if b == service.element then ([] ∷ []) ∷ es else (if b == service.component then with_component es else with_byte b es)
in_front_of service (Released b) es = with_byte b es

-- the elements that the characters of a segment stand for, the tag's first
abbrev pub elements_of : Service → List Character → List (List (List ℕ))
elements_of service [] = ([] ∷ []) ∷ []
elements_of service (c ∷ cs) = in_front_of service c (elements_of service cs)

-- the service characters of a text without UNA: `:`, `+`, `?` and `'`
abbrev pub default_service : Service
default_service = record { component = 58; element = 43; release = 63; terminator = 39 }
