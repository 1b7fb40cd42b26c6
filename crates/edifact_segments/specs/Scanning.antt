-- What the reader finds from a place on. No public clause cites this module.
use Rattle.std.specs.Prelude.{◌≡◌, ◌<◌, ℕ, Bool, slice_index_or, true, false, ◌&&◌, ◌==◌, not, List, [], ◌∷◌, if◌then◌else◌}
use Rattle.edifact_segments.specs.Characters.{Character, Plain, Released, is_control, is_release}
use Rattle.edifact_segments.specs.Grammar.{is_gap_byte}
use Rattle.edifact_segments.specs.declared.service.Service.{Service}

-- the text without the CR and LF at its front
abbrev pub skip : List ℕ → List ℕ
skip [] = []
skip (b ∷ bs) = if is_gap_byte b then skip bs else b ∷ bs

-- a byte that stands as it is: no control byte, and no service character
abbrev pub is_ordinary : Service → ℕ → Bool
is_ordinary s b =
    not (is_control b) && not (is_release s b) && not (b == s.terminator) && not (b == s.element) && not (b == s.component)

-- which bytes are ordinary, in the order of the bytes
abbrev pub IsTable : Service → List Bool → Type 0
IsTable s table = (b : ℕ) → b < 256 → slice_index_or table b false ≡ is_ordinary s b

-- what the text of a segment comes to: its terminator, a control byte or the end
pub data Front : Type 0 where
  Complete : List Character → List ℕ → Front
  Broken : List ℕ → Front
  Unended : Front

abbrev pub with_character : Character → Front → Front
with_character c (Complete cs next) = Complete (c ∷ cs) next
with_character c (Broken left) = Broken left
with_character c Unended = Unended

-- from a byte on that is released, or isn't
abbrev pub front : Service → Bool → List ℕ → Front
front s released [] = Unended
front s true (b ∷ bs) = if is_control b then Broken (b ∷ bs) else with_character (Released b) (front s false bs)
front s false (b ∷ bs) =
    if is_control b then Broken (b ∷ bs) else (if is_release s b then front s true bs else (if b == s.terminator then Complete [] bs else with_character (Plain b) (front s false bs)))
