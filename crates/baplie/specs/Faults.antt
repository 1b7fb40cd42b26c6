-- The faults of a list of segments, from UNB to UNZ, that is read as a bay plan message (SMDG BAPLIE 2.2).
-- Segments count from 1. Each cause is a fact about the list and the number of a segment.
use Rattle.std.specs.Prelude.{◌≡◌, ℕ, ◌+◌, ◌<◌, ◌≤◌, ◌⊎◌, Bool, true, false, List, [], ◌∷◌, length, take, drop, Option, Some, None, slice_get, slice_index_or, ◌==◌, if◌then◌else◌}
use Rattle.std.specs.List.{list_any, position_or_len}
use Rattle.edifact_segments.specs.declared.segments.Segment.{Segment}
use Rattle.baplie.specs.declared.causes.Cause.{Cause}
use Rattle.baplie.specs.declared.causes.Cause.TheVariants.{NotBaplie, ManyMessages, NoUnt, BadCell, AgencyLeftOut, TwoContainers, BreakbulkLeftOut, NoId, NameTooLong, LengthLeftOut, UnitLeftOut, BadWeight, NoWeightOrPort, BadCount, CountWrong, ReferenceWrong}
use Rattle.baplie.specs.Texts.{number_of}
use Rattle.baplie.specs.Segments.{element, same_element, is_title, is_unt, is_unz, closes, opens}
use Rattle.baplie.specs.Groups.{prior, shows}

-- ## The parts of the list

-- the element of a segment with this number from 1, or no component where the segment is missing
abbrev pub element_in : Option Segment → ℕ → List (List ℕ)
element_in None n = []
element_in (Some s) n = element s n

-- segment 2 is the UNH of a bay plan
abbrev pub is_titled : Option Segment → Bool
is_titled None = false
is_titled (Some s) = is_title s

-- the segments behind UNH; the first of them is segment 3
abbrev pub rest : List Segment → List Segment
rest segments = drop 2 segments

-- those up to UNT
abbrev pub body : List Segment → List Segment
body segments = take (position_or_len closes (rest segments)) (rest segments)

-- the segments before the first LOC+147
abbrev pub head : List Segment → List Segment
head [] = []
head (s ∷ ss) = if opens s then [] else s ∷ head ss

-- the cell groups: each runs from a LOC+147 to the next one
abbrev pub groups : List Segment → List (List Segment)
groups [] = []
groups (s ∷ ss) = if opens s then (s ∷ head ss) ∷ groups ss else groups ss

-- each group with the number of its first segment, where the first group begins at this number
abbrev pub numbered : ℕ → List (List Segment) → List (ℕ × List Segment)
numbered n [] = []
numbered n (g ∷ gs) = (n, g) ∷ numbered (n + length g) gs

-- ## The causes

-- Segment n stands in one of these numbered groups and is a cause of this kind.
pub record IsInGroup (listed : List (ℕ × List Segment)) (n : ℕ) (cause : Cause) : Type 0 where
  pub index : ℕ
  pub first : ℕ
  pub group : List Segment
  pub is_group : slice_get listed index ≡ Some (first, group)
  pub place : ℕ
  pub number : n ≡ first + place
  pub segment : Segment
  pub is_segment : slice_get group place ≡ Some segment
  pub is_cause : shows (prior group (take place group)) segment cause ≡ true

-- the cell groups of the list; the first segment behind UNH is segment 3
abbrev pub numbered_groups : List Segment → List (ℕ × List Segment)
numbered_groups segments = numbered (3 + length (head (body segments))) (groups (body segments))

-- how many segments a count counts: those from UNH to UNT, or at UNZ the one message
abbrev pub counted : ℕ → Segment → ℕ
counted n s = if is_unz s then 1 else n

-- the reference that is repeated: that of UNH in UNT, that of UNB in UNZ
abbrev pub referred : List Segment → Segment → List (List ℕ)
referred segments s = if is_unz s then element_in (slice_get segments 0) 5 else element_in (slice_get segments 1) 1

-- a whole element that is one text of one to nine digits
abbrev pub count_of : List (List ℕ) → Option ℕ
count_of e = if length e == 1 then number_of (slice_index_or e 0 []) else None

-- A segment behind these others, which stand behind UNH, is a cause of this kind.
abbrev pub IsEndCause : List Segment → List Segment → Segment → Cause → Type 0
IsEndCause segments before s ManyMessages = (list_any is_unt before ≡ true) × (is_unz s ≡ false)
IsEndCause segments before s NoUnt = (list_any is_unt before ≡ false) × (is_unz s ≡ true)
IsEndCause segments before s BadCount = (closes s ≡ true) × (count_of (element s 1) ≡ None)
IsEndCause segments before s (CountWrong said found) =
    (closes s ≡ true) × (count_of (element s 1) ≡ Some said) × (found ≡ counted (length before + 2) s) × (said ≡ found → ⊥)
IsEndCause segments before s ReferenceWrong = (closes s ≡ true) × (same_element (element s 2) (referred segments s) ≡ false)
IsEndCause segments before s NotBaplie = ⊥
IsEndCause segments before s BadCell = ⊥
IsEndCause segments before s AgencyLeftOut = ⊥
IsEndCause segments before s TwoContainers = ⊥
IsEndCause segments before s BreakbulkLeftOut = ⊥
IsEndCause segments before s NoId = ⊥
IsEndCause segments before s NameTooLong = ⊥
IsEndCause segments before s LengthLeftOut = ⊥
IsEndCause segments before s UnitLeftOut = ⊥
IsEndCause segments before s BadWeight = ⊥
IsEndCause segments before s NoWeightOrPort = ⊥

-- Segment n, behind UNH, is a cause of this kind.
pub record IsAtEnd (segments : List Segment) (n : ℕ) (cause : Cause) : Type 0 where
  pub place : ℕ
  pub number : n ≡ 3 + place
  pub segment : Segment
  pub is_segment : slice_get (rest segments) place ≡ Some segment
  pub is_cause : IsEndCause segments (take place (rest segments)) segment cause

-- Segment 2 isn't the UNH of a bay plan.
pub record IsUntitled (segments : List Segment) (n : ℕ) (cause : Cause) : Type 0 where
  pub number : n ≡ 2
  pub kind : cause ≡ NotBaplie
  pub untitled : is_titled (slice_get segments 1) ≡ false

abbrev pub HasCause : List Segment → ℕ → Cause → Type 0
HasCause segments n cause = IsUntitled segments n cause ⊎ (IsInGroup (numbered_groups segments) n cause ⊎ IsAtEnd segments n cause)

-- ## The least fault

-- the number of a cause, by which those at one segment are ordered
abbrev pub number : Cause → ℕ
number NotBaplie = 1
number ManyMessages = 2
number NoUnt = 3
number BadCell = 4
number AgencyLeftOut = 5
number TwoContainers = 6
number BreakbulkLeftOut = 7
number NoId = 8
number NameTooLong = 9
number LengthLeftOut = 10
number UnitLeftOut = 11
number BadWeight = 12
number NoWeightOrPort = 13
number BadCount = 14
number (CountWrong said found) = 15
number ReferenceWrong = 16

-- by segment number, then by cause number
abbrev pub IsUpTo : ℕ → Cause → ℕ → Cause → Type 0
IsUpTo n c m d = (n < m) ⊎ ((n ≡ m) × (number c ≤ number d))

pub record IsLeastFault (segments : List Segment) (n : ℕ) (cause : Cause) : Type 0 where
  pub has : HasCause segments n cause
  pub least : (m : ℕ) (other : Cause) → HasCause segments m other → IsUpTo n cause m other
