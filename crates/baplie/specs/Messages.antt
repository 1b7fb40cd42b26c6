-- What a list of segments, and a text, gives as a message (SMDG BAPLIE 2.2).
use Rattle.std.specs.Prelude.{◌≡◌, ℕ, List, map, Some, slice_get}
use Rattle.edifact_segments.specs.declared.segments.Segment.{Segment}
use Rattle.edifact_segments.specs.Grammar.{IsInterchange}
use Rattle.baplie.specs.declared.parts.Message.{Message}
use Rattle.baplie.specs.declared.causes.Cause.{Cause}
use Rattle.baplie.specs.Groups.{cell_group}
use Rattle.baplie.specs.Faults.{body, head, groups, HasCause}

-- the message of a list of segments in which there is no fault
pub record IsMessage (segments : List Segment) (message : Message) : Type 0 where
  pub faultless : (n : ℕ) (cause : Cause) → HasCause segments n cause → ⊥
  pub service : slice_get segments 0 ≡ Some message.service
  pub title : slice_get segments 1 ≡ Some message.title
  pub head : message.head ≡ head (body segments)
  pub groups : message.groups ≡ map cell_group (groups (body segments))

-- the list gives a message
abbrev pub IsRead : List Segment → Type 0
IsRead segments = (message : Message) × IsMessage segments message

-- the bytes are an interchange with this message
pub record IsMessageOf (bytes : List ℕ) (message : Message) : Type 0 where
  pub segments : List Segment
  pub interchange : IsInterchange bytes segments
  pub is_message : IsMessage segments message
