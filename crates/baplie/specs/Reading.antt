-- What the reader of a bay plan message answers.
use Rattle.std.specs.Prelude.{◌≡◌, ℕ, List, Option, Some}
use Rattle.edifact_segments.specs.declared.segments.Segment.{Segment}
use Rattle.edifact_segments.specs.Grammar.{IsInterchange, HasFault}
use Rattle.baplie.specs.declared.causes.Cause.{Cause}
use Rattle.baplie.specs.Faults.{IsLeastFault}
use Rattle.baplie.specs.declared.faults.BaplieFault.{BaplieFault}
use Rattle.baplie.specs.declared.faults.BaplieFault.TheVariants.{Seg, At, NoMemory}

-- the fault is the one that is found
abbrev pub IsFound : Option (ℕ × Cause) → BaplieFault → Type 0
IsFound found (Seg e) = ⊥
IsFound found (At n cause) = found ≡ Some (n, cause)
IsFound found NoMemory = Unit {0}

-- the fault of a list of segments
abbrev pub IsFaultOf : List Segment → BaplieFault → Type 0
IsFaultOf segments (Seg e) = ⊥
IsFaultOf segments (At n cause) = IsLeastFault segments n cause
IsFaultOf segments NoMemory = Unit {0}

-- The bytes are an interchange whose segments have this least fault.
pub record IsFaultIn (bytes : List ℕ) (n : ℕ) (cause : Cause) : Type 0 where
  pub segments : List Segment
  pub interchange : IsInterchange bytes segments
  pub is_fault : IsLeastFault segments n cause

-- the fault of a text: that of its interchange comes first
abbrev pub IsBaplieFault : List ℕ → BaplieFault → Type 0
IsBaplieFault bytes (Seg e) = HasFault bytes e
IsBaplieFault bytes (At n cause) = IsFaultIn bytes n cause
IsBaplieFault bytes NoMemory = Unit {0}
